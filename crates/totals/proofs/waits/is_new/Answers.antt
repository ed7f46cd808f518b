-- That `is_new` of src/waits.rt keeps its contract.
use mathlib.Core.Path.{refl}
use Rattle.totals.specs.Waits.{newly}
use Rattle.totals.proofs.waits.is_new.Goals as goal

pub returns : goal.returns
unfolding newly
returns c = refl
