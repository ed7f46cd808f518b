-- That `activity` and `values` of src/pair.rt, which call each other with a falling controller number, keep their contracts.
use Rattle.board_wires.proofs.PairLaws.{tells_none, tells-past, tells_more, all_told, values-told, core-lined, activities-lined}
use native.Mathlib.Omega.{arith}
use mathlib.Core.Path.{◌∙◌}
use Rattle.board_wires.proofs.pair.+activity_values.Goals as goal
use Rattle.board_wires.proofs.pair.+activity_values.Goals.{values-then-is_fed, values-else-is_fed}

pub activity-values-v-requires : goal.activity-values-v-requires
activity-values-v-requires t c = (omega (arith, c.decreases), tt)

pub activity-returns : goal.activity-returns
activity-returns t c =
    activities-lined _ _ _ _ _ (c.lined_core-k.ensures ∙ core-lined _ _ _ _ c.core_at.ensures c.values-v.ensures) c.active.ensures c.active-2.ensures

pub values-loop-d-init : goal.values-loop-d-init
values-loop-d-init t c = (omega arith, tells_none _ _ _)

pub values-activity-requires : goal.values-activity-requires
values-activity-requires t c = (omega (arith, c.decreases, c.lower-n.ensures.1, c.loop-d-test.true), tt)

pub values-loop-d-preserved : goal.values-loop-d-preserved
values-loop-d-preserved t c = (
  omega (arith, c.loop-d-test.true),
  elim c.if-is_fed.branch [
    | values-then-is_fed w ↦ tells_more _ _ _ _ _ _ (omega (arith, c.loop-d-test.true, c.lower-n.ensures.2)) c.loop-d.invariant.1 w.activity.ensures (w.t-is ∙ w.with_told-t.ensures)
    | values-else-is_fed w ↦ tells-past _ _ _ _ _ _ c.loop-d.invariant.1 c.is_fed.ensures w.if-is_fed.false w.t-is
  ],
)

pub values-returns : goal.values-returns
values-returns t c =
    values-told _ _ _ (all_told _ _ _ _ _ c.loop-d.invariant.0 c.loop-d-test.false c.lower-n.ensures.0 c.loop-d.invariant.1) _ _ c.values_by.ensures c.values_by-2.ensures
