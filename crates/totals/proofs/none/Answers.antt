-- That `none` of src/lib.rt keeps its contract.
use mathlib.Core.Path.{refl}
use Rattle.totals.specs.Totals.{zeros}
use Rattle.totals.proofs.none.Goals as goal

pub returns : goal.returns
unfolding zeros
returns c = refl
