-- That `bit_of` of src/hosts.rt keeps its contract.
use Rattle.words.specs.Array.{bit_at}
use Rattle.cic_registers.proofs.hosts.bit_of.Goals as goal

pub returns : goal.returns
unfolding bit_at
returns c = c.has.ensures
