-- That `hosts_taken` of src/maps.rt keeps its contract.
use Rattle.cic_registers.proofs.MapLaws.{taken_four}
use Rattle.cic_registers.proofs.maps.hosts_taken.Goals as goal

pub returns : goal.returns
returns c =
    let a = c.args in
    taken_four a.z.channels a.z.hosts a.k a.v c.host_taken.ensures c.host_taken-2.ensures c.host_taken-3.ensures c.host_taken-4.ensures
