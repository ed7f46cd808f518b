-- That `end_last` of src/handlers.rt keeps its contract.
use Rattle.aic_registers.specs.Handlers.{ended, closed_last}
use borrow.Author.Tests.{eq-eqb, ne_eqb}
use Rattle.words.proofs.ChoiceLaws.{pick_true, pick-false}
use mathlib.Core.Path.{◌∙◌}
use Rattle.aic_registers.proofs.handlers.end_last.Goals as goal

pub returns-then-entries-eq0 : goal.returns-then-entries-eq0
unfolding ended closed_last
returns-then-entries-eq0 c = pick_true _ (eq-eqb _ _ c.if-entries-eq0.true)

pub returns : goal.returns
unfolding ended closed_last
returns c = c.put_handler.ensures ∙ pick-false _ (ne_eqb _ _ c.if-entries-eq0.false)
