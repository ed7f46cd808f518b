-- That `status` of src/sides.rt keeps its contract.
use Rattle.coreinterrupt.specs.Side.{status}
use Rattle.coreinterrupt.proofs.sides.status.Goals as goal

pub returns : goal.returns
unfolding status
returns c = rw (c.meet.ensures, c.raw.ensures)
