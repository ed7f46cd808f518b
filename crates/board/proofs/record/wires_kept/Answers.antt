-- That `wires_kept` of src/record.rt keeps its contract.
use Rattle.board.specs.Sound.{wires_sound, wire_rule}
use Prim.Native.Nat.{◌/◌}
use lib.ListN.{get_or}
use native.Mathlib.Omega.{arith}
use Rattle.words.specs.Counting.{all_below}
use Rattle.words.proofs.CountingLaws.{all-none_yet, all_more, at_end}
use Rattle.board.proofs.record.wires_kept.Goals as goal

pub loop-k-init : goal.loop-k-init
loop-k-init c = (omega arith, all-none_yet _)

pub loop-k-preserved : goal.loop-k-preserved
loop-k-preserved c = (omega arith, all_more (λ j. wire_rule c.args.b.controllers (j / 40) (get_or c.args.b.wire j 0)) c.loop-k.k c.loop-k.invariant.1 c.wire_kept-ok.ensures)

pub returns : goal.returns
unfolding wires_sound
returns c = let b = c.args.b in at_end (λ n. all_below n (λ j. wire_rule b.controllers (j / 40) (get_or b.wire j 0))) c.loop-k.k 320 c.loop-k.invariant.0 c.loop-k-test.false c.loop-k.invariant.1
