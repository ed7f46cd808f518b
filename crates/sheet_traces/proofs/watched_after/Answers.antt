-- That `watched_after` of src/lib.rt keeps its contract.
use Rattle.sheet_traces.proofs.WatchLaws.{watched-still}
use Rattle.sheet_traces.proofs.watched_after.Goals as goal

pub returns-then-m-depth : goal.returns-then-m-depth
returns-then-m-depth c = c.watched_anew.ensures

pub returns : goal.returns
returns c =
    λ s x ok h laid q. watched-still c.args.table c.args.m.n c.args.w s x _ laid q c.if-m-depth.false c.join-used.ensures
