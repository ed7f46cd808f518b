-- That `start` of src/lib.rt keeps its contract.
use Rattle.aic_levels.proofs.StartLaws.{start-by}
use Rattle.aic_levels.proofs.start.Goals as goal

pub returns : goal.returns
returns c = start-by _ _ _ c.start-begun.ensures
