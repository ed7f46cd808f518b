-- That `grown` of src/lib.rt keeps its contract.
use Rattle.aic_bounds.proofs.WordLaws.{grown-from}
use Rattle.aic_bounds.proofs.grown.Goals as goal

pub returns : goal.returns
returns c =
    let a = c.args in
    grown-from a.w a.b a.n a.m a.t c.meet-enabled.ensures c.join-on.ensures c.drop_bits-first.ensures c.due_word.ensures c.plus-pending.ensures
    c.plus-edges.ensures c.plus-commands.ensures c.plus-turns.ensures c.plus-closed.ensures c.either-broke.ensures
