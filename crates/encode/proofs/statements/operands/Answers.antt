-- That `operands` of src/statements.rt keeps its contract.
use Rattle.trace.specs.Steps.{operands_of}
use mathlib.Core.Path.{◌∙◌}
use borrow.Author.Tests.{eq-eqb, ne_eqb}
use Rattle.words.proofs.ChoiceLaws.{pick_true, pick-false}
use Rattle.encode.proofs.statements.operands.Goals as goal

pub returns-then-told : goal.returns-then-told
unfolding operands_of
returns-then-told c = rw c.if-told.true (pick_true _ (eq-eqb _ _ c.if-step-eq-READ.true))

pub returns-then-step-eq-READ : goal.returns-then-step-eq-READ
unfolding operands_of
returns-then-step-eq-READ c = rw c.if-told.false (pick_true _ (eq-eqb _ _ c.if-step-eq-READ.true))

pub returns-then-told-2 : goal.returns-then-told-2
unfolding operands_of
returns-then-told-2 c = rw c.if-told-2.true (pick_true _ (eq-eqb _ _ c.if-step-eq-WRITE.true) ∙ pick-false _ (ne_eqb _ _ c.if-step-eq-READ.false))

pub returns-then-step-eq-WRITE : goal.returns-then-step-eq-WRITE
unfolding operands_of
returns-then-step-eq-WRITE c = rw c.if-told-2.false (pick_true _ (eq-eqb _ _ c.if-step-eq-WRITE.true) ∙ pick-false _ (ne_eqb _ _ c.if-step-eq-READ.false))

pub returns-then-step-eq-LINE : goal.returns-then-step-eq-LINE
unfolding operands_of
returns-then-step-eq-LINE c = pick_true _ (eq-eqb _ _ c.if-step-eq-LINE.true) ∙ pick-false _ (ne_eqb _ _ c.if-step-eq-WRITE.false) ∙ pick-false _ (ne_eqb _ _ c.if-step-eq-READ.false)

pub returns : goal.returns
unfolding operands_of
returns c = pick-false _ (ne_eqb _ _ c.if-step-eq-LINE.false) ∙ pick-false _ (ne_eqb _ _ c.if-step-eq-WRITE.false) ∙ pick-false _ (ne_eqb _ _ c.if-step-eq-READ.false)
