-- That `is_over` of src/lib.rt keeps its contract.
use Rattle.aic_record.specs.Sound.{over}
use mathlib.Core.Path.{refl}
use Rattle.aic_record.proofs.is_over.Goals as goal

pub returns : goal.returns
unfolding over
returns c = refl
