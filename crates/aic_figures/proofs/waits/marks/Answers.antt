-- That `marks` of src/waits.rt keeps its contract.
use mathlib.Core.Bool.{true}
use Rattle.aic_bounds.proofs.MarkLaws.{read_step, write_step, line_step}
use Rattle.aic_figures.proofs.RoomLaws.{step-read, step-write, step_line}
use Rattle.aic_figures.proofs.waits.marks.Goals as goal

pub returns-then-kind-eq-READ : goal.returns-then-kind-eq-READ
returns-then-kind-eq-READ c =
    let a = c.args in
    λ s ok h. read_step true s _ a.x (step-read a.kind a.x a.y c.if-kind-eq-READ.true) c.no_marks.ensures

pub returns-then-kind-eq-WRITE : goal.returns-then-kind-eq-WRITE
returns-then-kind-eq-WRITE c =
    let a = c.args in
    λ s ok h. write_step true s _ a.x a.y (step-write a.kind a.x a.y c.if-kind-eq-READ.false c.if-kind-eq-WRITE.true) (c.write_marks.ensures s ok h)

pub returns : goal.returns
returns c =
    let a = c.args in
    λ s ok h. line_step true s _ a.x a.y (step_line a.kind a.x a.y c.if-kind-eq-READ.false c.if-kind-eq-WRITE.false) (c.line_marks.ensures s h)
