-- That `within` of src/lib.rt keeps its contract.
use Rattle.aic.specs.Model.{within}
use mathlib.Core.Path.{refl}
use Rattle.aic.proofs.within.Goals as goal

pub returns : goal.returns
unfolding within
returns c = refl
