-- That `shown` of src/lib.rt keeps its contract.
use Rattle.words.proofs.ChoiceLaws.{pick_true, pick-false}
use Rattle.tables.proofs.shown.Goals as goal

pub returns-then-covered : goal.returns-then-covered
returns-then-covered c = pick_true _ c.if-covered.true

pub returns : goal.returns
returns c = pick-false _ c.if-covered.false
