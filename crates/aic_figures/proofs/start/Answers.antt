-- That `start` of src/lib.rt keeps its contract.
use Rattle.aic_figures.proofs.KeptLaws.{kept-first}
use Rattle.aic_figures.proofs.start.Goals as goal

pub returns : goal.returns
returns c = kept-first
