-- That `at_level` of src/lib.rt keeps its contract.
use Rattle.words.proofs.ChoiceLaws.{pick_true, pick-false}
use Rattle.aic_sources.proofs.at_level.Goals as goal

pub returns-then-low : goal.returns-then-low
returns-then-low c = pick_true _ c.if-low.true

pub returns-else-low : goal.returns-else-low
returns-else-low c = pick-false _ c.if-low.false
