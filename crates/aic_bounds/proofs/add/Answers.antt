-- That `add` of src/lib.rt keeps its contract.
use Rattle.aic_waits.proofs.FigureLaws.{capped-min}
use Rattle.aic_bounds.proofs.add.Goals as goal

pub returns : goal.returns
returns c = capped-min _ _ c.saturating_add.ensures
