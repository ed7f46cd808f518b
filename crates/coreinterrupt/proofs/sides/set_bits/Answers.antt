-- That `set_bits` of src/sides.rt keeps its contract.
use Rattle.coreinterrupt.specs.Side.{set_bits}
use Rattle.coreinterrupt.proofs.sides.set_bits.Goals as goal

pub returns : goal.returns
unfolding set_bits
returns c = rw (c.join.ensures, c.keep.ensures)
