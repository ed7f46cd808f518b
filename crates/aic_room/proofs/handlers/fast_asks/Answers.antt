-- That `fast_asks` of src/handlers.rt keeps its contract.
use Rattle.aic_room.proofs.LevelLaws.{laid-stale}
use Rattle.aic_room.proofs.HandlerLaws.{fast-told}
use Rattle.aic_room.proofs.handlers.fast_asks.Goals as goal

pub returns : goal.returns
returns c = λ a h. fast-told h _ _ (c.pending.ensures a (laid-stale h)) c.meet.ensures
