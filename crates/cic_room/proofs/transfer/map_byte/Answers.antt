-- That `map_byte` of src/transfer.rt keeps its contract.
use Rattle.cic_room.proofs.transfer.map_byte.Goals as goal

pub returns : goal.returns
returns c = c.byte_of.ensures.0
