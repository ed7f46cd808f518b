-- That `move_input` of src/lib.rt keeps its contract.
use Rattle.coreinterrupt_room.proofs.RoomLaws.{put-moved}
use Rattle.coreinterrupt_room.proofs.move_input.Goals as goal

pub returns : goal.returns
returns c = λ k h. put-moved h _ _ _ _ _ c.first_of-at.ensures.0 c.moved_word-w.ensures
