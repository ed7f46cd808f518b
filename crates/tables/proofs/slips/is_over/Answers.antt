-- That `is_over` of src/slips.rt keeps its contract.
use Rattle.tables.specs.Slips.{is_over, goes_over}
use Rattle.tables.proofs.slips.is_over.Goals as goal

pub returns-in-Some : goal.returns-in-Some
unfolding goes_over is_over
returns-in-Some c = rw (c.in-Some.is, c.limit_of.ensures)

pub returns-in-None : goal.returns-in-None
unfolding goes_over
returns-in-None c = rw c.in-None.is
