-- That `operands` of src/lib.rt keeps its contract.
use Rattle.trace.specs.Steps.{operands_of}
use mathlib.Core.Path.{◌∙◌}
use borrow.Author.Tests.{eq-eqb, ne_eqb}
use Rattle.words.proofs.ChoiceLaws.{pick_true, pick-false}
use Rattle.trace.proofs.operands.Goals as goal

pub returns-then-told : goal.returns-then-told
unfolding operands_of
returns-then-told c = rw c.if-told.true (pick_true _ (eq-eqb _ _ c.if-kind-eq-READ.true))

pub returns-then-kind-eq-READ : goal.returns-then-kind-eq-READ
unfolding operands_of
returns-then-kind-eq-READ c = rw c.if-told.false (pick_true _ (eq-eqb _ _ c.if-kind-eq-READ.true))

pub returns-then-told-2 : goal.returns-then-told-2
unfolding operands_of
returns-then-told-2 c = rw c.if-told-2.true (pick_true _ (eq-eqb _ _ c.if-kind-eq-WRITE.true) ∙ pick-false _ (ne_eqb _ _ c.if-kind-eq-READ.false))

pub returns-then-kind-eq-WRITE : goal.returns-then-kind-eq-WRITE
unfolding operands_of
returns-then-kind-eq-WRITE c = rw c.if-told-2.false (pick_true _ (eq-eqb _ _ c.if-kind-eq-WRITE.true) ∙ pick-false _ (ne_eqb _ _ c.if-kind-eq-READ.false))

pub returns-then-kind-eq-LINE : goal.returns-then-kind-eq-LINE
unfolding operands_of
returns-then-kind-eq-LINE c = pick_true _ (eq-eqb _ _ c.if-kind-eq-LINE.true) ∙ pick-false _ (ne_eqb _ _ c.if-kind-eq-WRITE.false) ∙ pick-false _ (ne_eqb _ _ c.if-kind-eq-READ.false)

pub returns : goal.returns
unfolding operands_of
returns c = pick-false _ (ne_eqb _ _ c.if-kind-eq-LINE.false) ∙ pick-false _ (ne_eqb _ _ c.if-kind-eq-WRITE.false) ∙ pick-false _ (ne_eqb _ _ c.if-kind-eq-READ.false)
