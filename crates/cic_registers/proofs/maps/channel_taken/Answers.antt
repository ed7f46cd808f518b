-- That `channel_taken` of src/maps.rt keeps its contract.
use Rattle.cic_registers.proofs.MapLaws.{taken_byte}
use Rattle.cic_registers.proofs.maps.channel_taken.Goals as goal

pub returns : goal.returns
returns c =
    let a = c.args in
    taken_byte a.z.systems a.z.channels a.k a.v a.j _ _ c.number_at.ensures c.byte_of.ensures.0 c.is_channel.ensures
