-- That `together` of src/lib.rt keeps its contract.
use Rattle.totals.specs.Totals.{together}
use Rattle.totals.proofs.together.Goals as goal

pub returns : goal.returns
unfolding together
returns c = rw (c.sums.ensures, c.largest.ensures, c.largest-2.ensures)
