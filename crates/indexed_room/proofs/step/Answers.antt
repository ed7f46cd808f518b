-- That `step` of src/lib.rt keeps its contract.
use mathlib.Core.Path.{ap, ◌∙◌}
use borrow.Author.Tests.{eq-eqb, ne_eqb}
use Rattle.words.proofs.ChoiceLaws.{pick_true, pick-false}
use Rattle.trace.specs.Turns.{step_of}
use Rattle.cic_indexed.specs.Model.{step}
use Rattle.indexed_room.proofs.ReplyLaws.{done_as}
use Rattle.indexed_room.proofs.step.Goals as goal

pub returns-then-kind-eq-READ : goal.returns-then-kind-eq-READ
unfolding step_of
returns-then-kind-eq-READ c = λ p ok h. done_as (ap (step p) (pick_true _ (eq-eqb _ _ c.if-kind-eq-READ.true))) (c.read.ensures p ok h)

pub returns-then-kind-eq-WRITE : goal.returns-then-kind-eq-WRITE
unfolding step_of
returns-then-kind-eq-WRITE c =
    λ p ok h.
    done_as (ap (step p) (pick_true _ (eq-eqb _ _ c.if-kind-eq-WRITE.true) ∙ pick-false _ (ne_eqb _ _ c.if-kind-eq-READ.false))) (c.write.ensures p ok h)

pub returns : goal.returns
unfolding step_of
returns c =
    λ p ok h.
    done_as (ap (step p) (pick-false _ (ne_eqb _ _ c.if-kind-eq-WRITE.false) ∙ pick-false _ (ne_eqb _ _ c.if-kind-eq-READ.false))) (c.line.ensures p ok h)
