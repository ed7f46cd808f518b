-- That `hot_word` of src/lib.rt keeps its contract.
use Rattle.aic_bounds.proofs.MarkLaws.{hot-from}
use Rattle.aic_bounds.proofs.hot_word.Goals as goal

pub returns : goal.returns
returns c =
    let a = c.args in hot-from a.s a.j c.edge_at.ensures c.is_active.ensures
    c.with_bit.ensures
