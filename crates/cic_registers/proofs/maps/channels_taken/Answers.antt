-- That `channels_taken` of src/maps.rt keeps its contract.
use Rattle.cic_registers.proofs.MapLaws.{taken_four}
use Rattle.cic_registers.proofs.maps.channels_taken.Goals as goal

pub returns : goal.returns
returns c =
    let a = c.args in
    taken_four a.z.systems a.z.channels a.k a.v c.channel_taken.ensures c.channel_taken-2.ensures c.channel_taken-3.ensures c.channel_taken-4.ensures
