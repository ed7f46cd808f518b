-- That `hot_word` of src/waits.rt keeps its contract.
use Rattle.aic_bounds.proofs.MarkLaws.{hot-from}
use Rattle.aic_figures.proofs.waits.hot_word.Goals as goal

pub returns : goal.returns
returns c =
    let a = c.args in
    λ s h. hot-from s a.j (c.is_edge.ensures s h) (c.is_active.ensures s h) c.with_bit.ensures
