-- That `is_over` of src/lib.rt keeps its contract.
use Rattle.aic_bounds.proofs.WordLaws.{over-from}
use Rattle.aic_bounds.proofs.is_over.Goals as goal

pub returns : goal.returns
returns c =
    let a = c.args in over-from a.s a.j a.d c.priority_at.ensures
    c.level_at.ensures
