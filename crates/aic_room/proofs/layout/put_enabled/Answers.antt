-- That `put_enabled` of src/layout.rt keeps its contract.
use Rattle.aic_room.proofs.CellLaws.{put_enabled}
use Rattle.aic_room.proofs.layout.put_enabled.Goals as goal

pub returns : goal.returns
returns c = λ a h. put_enabled h _ _ _ _ c.join-fast.ensures c.drop_bits.ensures c.meet.ensures
