-- That `is_carried` of src/lib.rt keeps its contract.
use mathlib.Core.Path.{refl}
use Rattle.aic_runs.specs.Counted.{carries}
use Rattle.aic_bounds.proofs.is_carried.Goals as goal

pub returns : goal.returns
unfolding carries
returns c = refl
