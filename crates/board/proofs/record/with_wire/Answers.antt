-- That `with_wire` of src/record.rt keeps its contract.
use Rattle.board.specs.Record.{with_wire}
use lib.ListN.{length}
use mathlib.Core.Path.{◌≡◌}
use native.Mathlib.Omega.{arith}
use Rattle.board.proofs.RecordLaws.{wire_out}
use borrow.Author.Rules.{rules}
use Rattle.board.proofs.record.with_wire.Goals as goal

pub returns-then-at-lt320 : goal.returns-then-at-lt320
unfolding with_wire
returns-then-at-lt320 c = rw c.wire_number-n.ensures

pub returns : goal.returns
returns c = let a = c.args in let h : length a.b.wire ≡ 320 = search rules in wire_out a.b a.c a.i a.w (omega (arith, h, c.if-at-lt320.false))
