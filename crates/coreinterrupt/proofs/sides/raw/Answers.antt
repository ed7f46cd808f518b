-- That `raw` of src/sides.rt keeps its contract.
use Rattle.coreinterrupt.specs.Side.{raw}
use Rattle.coreinterrupt.proofs.sides.raw.Goals as goal

pub returns : goal.returns
unfolding raw
returns c = c.join.ensures
