-- That `other` of src/sides.rt keeps its contract.
use Rattle.words.proofs.ChoiceLaws.{pick_true, pick-false}
use borrow.Author.Tests.{eq-eqb, ne_eqb}
use Rattle.coreinterrupt.proofs.sides.other.Goals as goal

pub returns-then-level-eq0 : goal.returns-then-level-eq0
returns-then-level-eq0 c = pick_true _ (eq-eqb _ _ c.if-level-eq0.true)

pub returns-else-level-eq0 : goal.returns-else-level-eq0
returns-else-level-eq0 c = pick-false _ (ne_eqb _ _ c.if-level-eq0.false)
