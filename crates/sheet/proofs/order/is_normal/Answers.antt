-- That `is_normal` of src/order.rt keeps its contract.
use Rattle.stack.specs.Bytes.{normal}
use Rattle.sheet.proofs.order.is_normal.Goals as goal

pub returns : goal.returns
unfolding normal
returns c = rw c.has.ensures
