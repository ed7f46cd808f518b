-- That `watched_anew` of src/lib.rt keeps its contract.
use native.Mathlib.Omega.{arith}
use Rattle.words.proofs.CountingLaws.{one_le}
use Rattle.aic.proofs.SoundLaws.{step-sound}
use Rattle.aic_room.proofs.CellLaws.{depth_is, enabled-is}
use Rattle.sheet_traces.proofs.WatchLaws.{kept_if-same, watched-from}
use Rattle.sheet_traces.proofs.watched_anew.Goals as goal

pub overflow_add-marks : goal.overflow_add-marks
overflow_add-marks c =
    omega (arith, c.requires.0, c.one_if.ensures, one_le c.opened_mark.result)

pub overflow_add-ends : goal.overflow_add-ends
overflow_add-ends c =
    omega (arith, c.requires.1, c.one_if-2.ensures, one_le c.args.m.idle)

pub returns : goal.returns
returns c =
    λ r x ok h laid q.
    watched-from c.args.table c.args.m.n c.args.w r x
    c.one_if.ensures (c.opened_mark.ensures r x ok h laid q.depth) c.one_if-2.ensures q.ends (depth_is laid) c.join-used.ensures (enabled-is laid)
    (c.strays_after-strays.ensures _ (step-sound r x h ok) laid (kept_if-same c.args.table c.args.w r x _ laid q)) c.either-astray.ensures
