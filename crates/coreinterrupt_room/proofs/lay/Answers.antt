-- That `lay` of src/lib.rt keeps its contract.
use Rattle.coreinterrupt_room.proofs.RoomLaws.{lay_core}
use Rattle.coreinterrupt_room.proofs.lay.Goals as goal

pub returns : goal.returns
returns c = rw (c.lay_side-2.ensures, c.lay_side.ensures) (lay_core _)
