-- That `fresh` of src/lib.rt keeps its contract.
use Rattle.aic_bounds.proofs.WordLaws.{fresh-from}
use Rattle.aic_bounds.proofs.fresh.Goals as goal

pub returns : goal.returns
returns c =
    let a = c.args in
    rw c.idle.ensures (fresh-from a.k a.t c.rival_word-rivals.ensures c.meet-on.ensures c.due_word.ensures c.meet.ensures c.count-pending.ensures
    c.is_carried.ensures c.one_if-remembered.ensures)
