-- That `waiting` of src/layout.rt keeps its contract.
use Rattle.aic_room.proofs.LevelLaws.{waiting_in}
use Rattle.aic_room.proofs.layout.waiting.Goals as goal

pub returns : goal.returns
returns c = λ a h. waiting_in a c.args.room.now _ _ h (c.pending.ensures a h) c.meet.ensures
