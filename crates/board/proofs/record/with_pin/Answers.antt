-- That `with_pin` of src/record.rt keeps its contract.
use Rattle.board.specs.Record.{with_pin}
use lib.ListN.{length}
use mathlib.Core.Path.{◌≡◌, refl}
use native.Mathlib.Omega.{arith}
use Rattle.board.proofs.RecordLaws.{pin_out}
use borrow.Author.Rules.{rules}
use Rattle.board.proofs.record.with_pin.Goals as goal

pub returns-then-at-lt320 : goal.returns-then-at-lt320
unfolding with_pin
returns-then-at-lt320 c = refl

pub returns : goal.returns
returns c = let a = c.args in let h : length a.b.pin ≡ 320 = search rules in pin_out a.b a.p a.level (omega (arith, h, c.if-at-lt320.false))
