-- That `started_from` of src/lib.rt keeps its contract.
use native.Mathlib.Omega.{arith}
use Rattle.aic_record.proofs.SoundLaws.{sound-is}
use Rattle.aic_room.proofs.CellLaws.{depth_is}
use Rattle.aic_waits.proofs.FigureLaws.{none_more, mark-more, some_more}
use Rattle.aic_figures.proofs.EntryLaws.{started_at}
use Rattle.aic_figures.proofs.started_from.Goals as goal

pub returns-then-room-before : goal.returns-then-room-before
returns-then-room-before c = λ t ok h. none_more _ t (omega (arith, c.if-room-before.true, depth_is h))

pub returns-then-k-eq0 : goal.returns-then-k-eq0
returns-then-k-eq0 c = λ t ok h. mark-more _ t _ (omega (arith, c.if-room-before.false, depth_is h)) (started_at h (sound-is t ok).entries (omega (arith, c.if-room-before.false, depth_is h))) c.if-k-eq0.true

pub returns : goal.returns
returns c = λ t ok h. some_more _ t _ (omega (arith, c.if-room-before.false, depth_is h)) (started_at h (sound-is t ok).entries (omega (arith, c.if-room-before.false, depth_is h))) c.if-k-eq0.false
