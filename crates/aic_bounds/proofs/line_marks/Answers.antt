-- That `line_marks` of src/lib.rt keeps its contract.
use Rattle.aic_bounds.proofs.MarkLaws.{line-from}
use Rattle.aic_bounds.proofs.line_marks.Goals as goal

pub returns : goal.returns
returns c =
    let a = c.args in
    rw c.no_marks.ensures (line-from a.ok a.s a.k a.l c.turns_active.ensures c.edge_at-edge.ensures c.with_bit-edges.ensures c.with_bit-turns.ensures)
