-- That `two_numbers` of src/lib.rt keeps its contract.
use mathlib.Core.Path.{◌∙◌}
use borrow.Author.Tests.{eq-eqb, ne_eqb}
use Rattle.words.proofs.ChoiceLaws.{pick_true, pick-false}
use Rattle.trace.specs.Steps.{two_numbers}
use Rattle.trace.proofs.two_numbers.Goals as goal

pub returns-then-kind-eq-READ : goal.returns-then-kind-eq-READ
unfolding two_numbers
returns-then-kind-eq-READ c = pick_true _ (eq-eqb _ _ c.if-kind-eq-READ.true)

pub returns-then-kind-eq-WRITE : goal.returns-then-kind-eq-WRITE
unfolding two_numbers
returns-then-kind-eq-WRITE c = c.plain.ensures ∙ pick_true _ (eq-eqb _ _ c.if-kind-eq-WRITE.true) ∙ pick-false _ (ne_eqb _ _ c.if-kind-eq-READ.false)

pub returns : goal.returns
unfolding two_numbers
returns c = c.plain-2.ensures ∙ pick-false _ (ne_eqb _ _ c.if-kind-eq-WRITE.false) ∙ pick-false _ (ne_eqb _ _ c.if-kind-eq-READ.false)
