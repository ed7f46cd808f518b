-- That `spend_fast` of src/handlers.rt keeps its contract.
use Rattle.aic_registers.specs.Handlers.{fast_spent}
use borrow.Author.Tests.{eq-eqb, ne_eqb}
use Rattle.words.proofs.ChoiceLaws.{pick_true, pick-false}
use mathlib.Core.Path.{◌∙◌}
use Rattle.aic_registers.proofs.handlers.spend_fast.Goals as goal

pub returns-then-s-eq0 : goal.returns-then-s-eq0
unfolding fast_spent
returns-then-s-eq0 c = c.spend.ensures ∙ pick_true _ (eq-eqb _ _ c.if-s-eq0.true)

pub returns : goal.returns
unfolding fast_spent
returns c = pick-false _ (ne_eqb _ _ c.if-s-eq0.false)
