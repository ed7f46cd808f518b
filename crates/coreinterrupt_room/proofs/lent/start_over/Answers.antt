-- That `start_over` of src/lent.rt keeps its contract.
use Rattle.coreinterrupt_room.specs.Lent.{start_over}
use Rattle.coreinterrupt_room.proofs.lent.start_over.Goals as goal

pub returns : goal.returns
unfolding start_over
returns c = rw (c.unless_refused.ensures, c.answer_of.ensures, c.start-b.ensures)
