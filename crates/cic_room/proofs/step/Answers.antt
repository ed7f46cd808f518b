-- That `step` of src/lib.rt keeps its contract.
use mathlib.Core.Path.{sym, ◌∙◌}
use mathlib.Core.Bool.{true}
use borrow.Author.Tests.{eq-eqb, ne_eqb}
use Rattle.words.proofs.ChoiceLaws.{pick_true, pick-false}
use Rattle.cic_registers.proofs.StepLaws.{step-read, step-write, step_line}
use Rattle.trace.specs.Turns.{step_of}
use Rattle.cic_room.proofs.ReplyLaws.{done_as}
use Rattle.cic_room.proofs.step.Goals as goal

pub returns-then-kind-eq-READ : goal.returns-then-kind-eq-READ
unfolding step_of
returns-then-kind-eq-READ c = let x = c.args in λ f d ok h. done_as (step-read true d x.x (sym (pick_true _ (eq-eqb _ _ c.if-kind-eq-READ.true)))) (c.read.ensures f d ok h)

pub returns-then-kind-eq-WRITE : goal.returns-then-kind-eq-WRITE
unfolding step_of
returns-then-kind-eq-WRITE c = let x = c.args in λ f d ok h. done_as (step-write true d x.x x.y (sym (pick_true _ (eq-eqb _ _ c.if-kind-eq-WRITE.true) ∙ pick-false _ (ne_eqb _ _ c.if-kind-eq-READ.false)))) (c.write.ensures f d ok h)

pub returns : goal.returns
unfolding step_of
returns c = let x = c.args in λ f d ok h. done_as (step_line true d x.x x.y (sym (pick-false _ (ne_eqb _ _ c.if-kind-eq-WRITE.false) ∙ pick-false _ (ne_eqb _ _ c.if-kind-eq-READ.false)))) (c.line.ensures f d ok h)
