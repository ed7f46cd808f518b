-- That `stands_by` of src/lib.rt keeps its contract.
use mathlib.Core.Path.{◌∙◌}
use borrow.Author.Tests.{eq-eqb, ne_eqb}
use Rattle.words.proofs.ChoiceLaws.{pick_true, pick-false}
use Rattle.register_names.specs.Table.{stands_by}
use Rattle.register_names.proofs.stands_by.Goals as goal

pub returns-then-step-eq0 : goal.returns-then-step-eq0
unfolding stands_by
returns-then-step-eq0 c = pick_true _ (eq-eqb _ _ c.if-step-eq0.true)

pub returns : goal.returns
unfolding stands_by
returns c = c.in_group.ensures ∙ pick-false _ (ne_eqb _ _ c.if-step-eq0.false)
