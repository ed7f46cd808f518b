-- That `start` of src/waits.rt keeps its contract.
use Rattle.aic_figures.proofs.WaitsKeptLaws.{kept-start}
use Rattle.aic_figures.proofs.waits.start.Goals as goal

pub returns : goal.returns
returns c = kept-start
