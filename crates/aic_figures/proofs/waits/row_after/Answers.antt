-- That `row_after` of src/waits.rt keeps its contract.
use Rattle.aic_figures.proofs.RowLaws.{row_from}
use Rattle.aic_figures.proofs.waits.row_after.Goals as goal

pub returns : goal.returns
returns c =
    let a = c.args in
    λ t ok h. row_from a.k a.was a.is a.n a.m t a.row c.figures_of-f.ensures c.either-w.ensures (c.bound_after-b.ensures t ok h) c.figures_with.ensures c.row_of.ensures
