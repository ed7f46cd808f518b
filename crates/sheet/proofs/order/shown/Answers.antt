-- That `shown` of src/order.rt keeps its contract.
use Rattle.sheet.specs.Order.{shown}
use Rattle.sheet.proofs.order.shown.Goals as goal

pub returns : goal.returns
unfolding shown
returns c = rw c.has.ensures
