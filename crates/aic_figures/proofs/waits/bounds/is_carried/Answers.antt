-- That `is_carried` of src/waits/bounds.rt keeps its contract.
use Rattle.aic_figures.proofs.BoundLaws.{carried_in}
use Rattle.aic_figures.proofs.waits.bounds.is_carried.Goals as goal

pub returns : goal.returns
returns c = λ t h. carried_in h _
