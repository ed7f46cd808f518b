-- That `read_clear` of src/lib.rt keeps its contract.
use Rattle.words.proofs.ChoiceLaws.{pick_true, pick-false}
use borrow.Author.Tests.{eq-eqb, ne_eqb}
use mathlib.Core.Path.{◌∙◌}
use Rattle.coreinterrupt_room.proofs.read_clear.Goals as goal

pub returns-then-n-eq0 : goal.returns-then-n-eq0
returns-then-n-eq0 c = c.answer.ensures ∙ pick_true _ (eq-eqb _ _ c.if-n-eq0.true)

pub returns : goal.returns
returns c = c.refuse.ensures ∙ pick-false _ (ne_eqb _ _ c.if-n-eq0.false)
