-- That `turn_bits` of src/lib.rt keeps its contract.
use Rattle.coreinterrupt_room.proofs.RoomLaws.{put-turned}
use Rattle.coreinterrupt_room.proofs.turn_bits.Goals as goal

pub returns : goal.returns
returns c =
    λ k h. put-turned h _ _ _ _ _ _ c.requires c.first_of-at.ensures.0 c.keep-v.ensures c.turn-w.ensures
