-- That `put_in` of src/room.rt keeps its contract.
use Rattle.text.proofs.RoomLaws.{byte-stands}
use Rattle.text.proofs.room.put_in.Goals as goal

pub returns : goal.returns
returns c = byte-stands _ _ _ c.requires
