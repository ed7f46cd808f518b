-- That `pending` of src/layout.rt keeps its contract.
use Rattle.aic_room.proofs.LevelLaws.{pending_in}
use Rattle.aic_room.proofs.layout.pending.Goals as goal

pub returns : goal.returns
returns c = λ a h. pending_in a c.args.room.now _ _ h c.active_word-active.ensures c.blend.ensures
