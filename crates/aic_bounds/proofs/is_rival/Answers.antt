-- That `is_rival` of src/lib.rt keeps its contract.
use Rattle.aic_bounds.proofs.WordLaws.{rival-from}
use Rattle.aic_bounds.proofs.is_rival.Goals as goal

pub returns : goal.returns
returns c =
    let a = c.args in
    rival-from a.s a.k a.i c.priority_at-p.ensures c.priority_at-q.ensures
    c.has.ensures
