-- That `line_marks` of src/waits.rt keeps its contract.
use mathlib.Core.Path.{◌∙◌}
use mathlib.Core.Bool.{true}
use native.Mathlib.Omega.{arith}
use Rattle.aic_bounds.proofs.MarkLaws.{line-from}
use Rattle.aic_figures.proofs.RoomLaws.{line-past}
use Rattle.aic_figures.proofs.waits.line_marks.Goals as goal

pub turns_active-rises-requires : goal.turns_active-rises-requires
turns_active-rises-requires c = omega (arith, c.if-k-gt31.false)

pub is_edge-edge-requires : goal.is_edge-edge-requires
is_edge-edge-requires c = omega (arith, c.if-k-gt31.false)

pub returns-then-k-gt31 : goal.returns-then-k-gt31
returns-then-k-gt31 c =
    let a = c.args in
    λ s h. c.no_marks.ensures ∙ line-past s a.k a.l c.if-k-gt31.true

pub returns : goal.returns
returns c =
    let a = c.args in
    λ s h. line-from true s a.k a.l (c.turns_active-rises.ensures s h) (c.is_edge-edge.ensures s h) c.with_bit-edges.ensures c.with_bit-turns.ensures
