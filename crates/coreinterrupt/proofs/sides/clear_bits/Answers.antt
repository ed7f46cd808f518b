-- That `clear_bits` of src/sides.rt keeps its contract.
use Rattle.coreinterrupt.specs.Side.{clear_bits}
use Rattle.coreinterrupt.proofs.sides.clear_bits.Goals as goal

pub returns : goal.returns
unfolding clear_bits
returns c = rw (c.drop_bits.ensures, c.keep.ensures)
