-- That `pins_kept` of src/record.rt keeps its contract.
use Rattle.board.specs.Sound.{pins_sound}
use mathlib.Core.Path.{refl}
use lib.Dec.{leb}
use lib.ListN.{get_or}
use native.Mathlib.Omega.{arith}
use Rattle.words.specs.Counting.{all_below}
use Rattle.words.proofs.CountingLaws.{all-none_yet, all_more, at_end}
use Rattle.board.proofs.record.pins_kept.Goals as goal

pub loop-level-init : goal.loop-level-init
loop-level-init c = (omega arith, all-none_yet _)

pub loop-level-preserved : goal.loop-level-preserved
loop-level-preserved c = (omega arith, all_more (λ k. leb (get_or c.args.b.pin k 0) 1) c.loop-level.level-index c.loop-level.invariant.1 refl)

pub returns : goal.returns
unfolding pins_sound
returns c = at_end (λ n. all_below n (λ k. leb (get_or c.args.b.pin k 0) 1)) c.loop-level.level-index 320 c.loop-level.invariant.0 c.loop-level-test.false c.loop-level.invariant.1
