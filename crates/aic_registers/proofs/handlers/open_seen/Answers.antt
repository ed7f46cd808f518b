-- That `open_seen` of src/handlers.rt keeps its contract.
use mathlib.Core.Path.{◌∙◌}
use borrow.Author.Tests.{eq-eqb, ne_eqb}
use Rattle.words.proofs.ChoiceLaws.{pick_true, pick-false}
use Rattle.aic_registers.proofs.handlers.open_seen.Goals as goal

pub returns-then-seen-eq1 : goal.returns-then-seen-eq1
returns-then-seen-eq1 c = c.start_at.ensures ∙ pick_true _ (eq-eqb _ _ c.if-seen-eq1.true)

pub returns : goal.returns
returns c = c.open_mark.ensures ∙ pick-false _ (ne_eqb _ _ c.if-seen-eq1.false)
