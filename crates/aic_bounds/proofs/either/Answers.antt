-- That `either` of src/lib.rt keeps its contract.
use Rattle.words.proofs.ChoiceLaws.{pick_true, pick-false}
use Rattle.aic_bounds.proofs.either.Goals as goal

pub returns-then-t : goal.returns-then-t
returns-then-t c = pick_true _ c.if-t.true

pub returns : goal.returns
returns c = pick-false _ c.if-t.false
