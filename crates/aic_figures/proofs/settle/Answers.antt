-- That `settle` of src/lib.rt keeps its contract.
use Rattle.aic_figures.proofs.settle.Goals as goal

pub returns : goal.returns
returns c = rw (c.max-m.ensures, c.saturating_sub-n.ensures)
