-- That `host_taken` of src/maps.rt keeps its contract.
use Rattle.cic_registers.proofs.MapLaws.{taken_byte}
use Rattle.cic_registers.proofs.maps.host_taken.Goals as goal

pub returns : goal.returns
returns c =
    let a = c.args in
    taken_byte a.z.channels a.z.hosts a.k a.v a.j _ _ c.number_at.ensures c.byte_of.ensures.0 c.is_host.ensures
