-- That `record_of` of src/lib.rt keeps its contract.
use Rattle.coreinterrupt_room.proofs.RoomLaws.{core-told}
use Rattle.coreinterrupt_room.proofs.record_of.Goals as goal

pub returns : goal.returns
returns c = λ k h. core-told k _ _ (c.side_in.ensures k h) (c.side_in-2.ensures k h)
