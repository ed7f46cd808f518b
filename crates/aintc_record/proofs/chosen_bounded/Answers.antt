-- That `chosen_bounded` of src/lib.rt keeps its contract.
use Rattle.words.proofs.ChoiceLaws.{pick_true, pick-false}
use Rattle.aintc_record.specs.Bounds.{chosen_bounded}
use Rattle.aintc_record.proofs.chosen_bounded.Goals as goal

pub returns-then-c : goal.returns-then-c
unfolding chosen_bounded
returns-then-c c = pick_true _ c.if-c.true

pub returns : goal.returns
unfolding chosen_bounded
returns c = pick-false _ c.if-c.false
