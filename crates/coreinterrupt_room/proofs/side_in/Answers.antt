-- That `side_in` of src/lib.rt keeps its contract.
use Rattle.coreinterrupt_room.proofs.RoomLaws.{side-told}
use Rattle.coreinterrupt_room.proofs.side_in.Goals as goal

pub returns : goal.returns
returns c = λ k h. side-told h _ _ c.first_of-at.ensures.0
