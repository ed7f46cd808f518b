-- That `none` of src/waits.rt keeps its contract.
use mathlib.Core.Path.{refl}
use Rattle.totals.specs.Waits.{no_waits}
use Rattle.totals.proofs.waits.none.Goals as goal

pub returns : goal.returns
unfolding no_waits
returns c = refl
