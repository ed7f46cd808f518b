-- That `plus` of src/lib.rt keeps its contract.
use Rattle.aic_bounds.proofs.plus.Goals as goal

pub returns : goal.returns
returns c = rw (c.add.ensures, c.count.ensures, c.meet.ensures)
