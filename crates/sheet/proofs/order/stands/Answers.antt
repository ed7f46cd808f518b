-- That `stands` of src/order.rt keeps its contract.
use Rattle.sheet.specs.Order.{stands}
use Rattle.words.specs.Choice.{pick}
use Rattle.sheet.proofs.order.stands.Goals as goal

pub returns-then-fast : goal.returns-then-fast
unfolding stands pick
returns-then-fast c = rw (c.shown-is.ensures, c.is_normal-n.ensures, c.if-fast.true)

pub returns : goal.returns
unfolding stands pick
returns c = rw (c.shown-is.ensures, c.is_normal-n.ensures, c.if-fast.false)
