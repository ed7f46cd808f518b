-- That `step` of src/lib.rt keeps its contract.
use mathlib.Core.Path.{ap, ◌∙◌}
use native.Mathlib.Omega.{arith}
use borrow.Author.Tests.{eq-eqb, ne_eqb}
use Rattle.words.proofs.ChoiceLaws.{pick_true, pick-false}
use Rattle.trace.specs.Turns.{step_of}
use Rattle.aic.specs.Model.{step}
use Rattle.aic_room.proofs.ReplyLaws.{done_as}
use Rattle.aic_room.proofs.step.Goals as goal

pub returns-in-1 : goal.returns-in-1
unfolding step_of
returns-in-1 c = λ a ok h. done_as (ap (step a) (pick_true _ (eq-eqb _ _ c.in-1.is))) (c.read.ensures a ok h)

pub returns-in-2 : goal.returns-in-2
unfolding step_of
returns-in-2 c =
    λ a ok h. done_as (ap (step a) (pick_true _ (eq-eqb _ _ c.in-2.is) ∙ pick-false _ (ne_eqb _ 1 (omega (arith, c.in-2.is))))) (c.write.ensures a ok h)

pub returns-in_default : goal.returns-in_default
unfolding step_of
returns-in_default c =
    λ a ok h. done_as (ap (step a) (pick-false _ (ne_eqb _ 2 (omega arith)) ∙ pick-false _ (ne_eqb _ 1 (omega arith)))) (c.line.ensures a ok h)
