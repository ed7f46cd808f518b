-- That `may_start` of src/handlers.rt keeps its contract.
use Rattle.aic_room.proofs.HandlerLaws.{above_full, above-room}
use Rattle.aic_room.proofs.CellLaws.{depth_is, last-is}
use Rattle.aic_room.proofs.handlers.may_start.Goals as goal

pub returns-then-room-ge8 : goal.returns-then-room-ge8
returns-then-room-ge8 c = λ a h. above_full a _ _ (depth_is h) c.if-room-ge8.true

pub returns : goal.returns
returns c = λ a h. above-room a _ _ _ _ (depth_is h) c.if-room-ge8.false (last-is h) c.is_over.ensures
