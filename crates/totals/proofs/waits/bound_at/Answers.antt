-- That `bound_at` of src/waits.rt keeps its contract.
use Rattle.totals.specs.Waits.{bound_of}
use Rattle.totals.proofs.waits.bound_at.Goals as goal

pub returns : goal.returns
unfolding bound_of
returns c = rw (c.from.ensures, c.from-2.ensures, c.from-3.ensures, c.from-4.ensures, c.from-5.ensures, c.from-6.ensures)
