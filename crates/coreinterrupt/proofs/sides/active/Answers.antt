-- That `active` of src/sides.rt keeps its contract.
use Rattle.coreinterrupt.specs.Side.{active}
use Rattle.coreinterrupt.proofs.sides.active.Goals as goal

pub returns : goal.returns
unfolding active
returns c = rw c.status.ensures
