-- That `figures_of` of src/waits.rt keeps its contract.
use Rattle.aic_figures.proofs.waits.figures_of.Goals as goal

pub returns : goal.returns
returns c = rw c.either-wait.ensures
