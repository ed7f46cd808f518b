-- That `record_of` of src/transfer.rt keeps its contract.
use Rattle.indexed_room.specs.Room.{framed}
use Rattle.indexed_room.proofs.TransferLaws.{record_is}
use Rattle.indexed_room.proofs.transfer.record_of.Goals as goal

pub returns : goal.returns
returns c =
    λ p ok h. record_is p _ _ _ ok h (c.record_of-cic.ensures (framed p) p.cic h) c.narrow-global.ensures c.held_in-host.ensures.0 c.held_in-host.ensures.1
