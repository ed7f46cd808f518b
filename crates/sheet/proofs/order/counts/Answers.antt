-- That `counts` of src/order.rt keeps its contract.
use Rattle.sheet.specs.Order.{ahead}
use Rattle.sheet.proofs.order.counts.Goals as goal

pub returns : goal.returns
unfolding ahead
returns c = rw (c.shown-is.ensures, c.is_normal-n.ensures, c.word_at-p.ensures, c.word_at-q.ensures)
