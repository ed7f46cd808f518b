-- That `no_figures` of src/figures.rt keeps its contract.
use Rattle.aic_bounds.proofs.figures.no_figures.Goals as goal

pub returns : goal.returns
returns c = rw (c.idle.ensures, c.idle-2.ensures)
