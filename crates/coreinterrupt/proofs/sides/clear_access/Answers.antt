-- That `clear_access` of src/sides.rt keeps its contract.
use Rattle.coreinterrupt.specs.Side.{clear_access}
use Rattle.words.proofs.ChoiceLaws.{pick_true, pick-false}
use borrow.Author.Tests.{eq-eqb, ne_eqb}
use Rattle.coreinterrupt.proofs.sides.clear_access.Goals as goal

pub returns-then-s-eq0 : goal.returns-then-s-eq0
unfolding clear_access
returns-then-s-eq0 c = pick_true _ (eq-eqb _ _ c.if-s-eq0.true)

pub returns : goal.returns
unfolding clear_access
returns c = pick-false _ (ne_eqb _ _ c.if-s-eq0.false)
