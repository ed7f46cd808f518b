-- That `is_larger` of src/waits.rt keeps its contract.
use Rattle.totals.specs.Waits.{larger}
use Rattle.totals.proofs.waits.is_larger.Goals as goal

pub returns : goal.returns
unfolding larger
returns c = rw (c.bound_at.ensures, c.bound_at-2.ensures)
