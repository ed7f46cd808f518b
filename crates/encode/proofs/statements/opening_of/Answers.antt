-- That `opening_of` of src/statements.rt keeps its contract.
use mathlib.Core.Path.{◌∙◌}
use borrow.Author.Tests.{eq-eqb, ne_eqb}
use Rattle.words.proofs.ChoiceLaws.{pick_true, pick-false}
use Rattle.encode.specs.Passes.{opening_in}
use Rattle.encode.proofs.statements.opening_of.Goals as goal

pub returns-then-kind-eq-NO_KIND : goal.returns-then-kind-eq-NO_KIND
unfolding opening_in
returns-then-kind-eq-NO_KIND c = c.controller_by.ensures ∙ pick_true _ (eq-eqb _ _ c.if-kind-eq-NO_KIND.true)

pub returns : goal.returns
unfolding opening_in
returns c = c.step_by.ensures ∙ pick-false _ (ne_eqb _ _ c.if-kind-eq-NO_KIND.false)
