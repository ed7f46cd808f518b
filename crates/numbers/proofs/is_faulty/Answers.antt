-- That `is_faulty` of src/lib.rt keeps its contract.
use Rattle.numbers.specs.Number.{faulty}
use mathlib.Core.Path.{refl}
use Rattle.numbers.proofs.is_faulty.Goals as goal

pub returns : goal.returns
unfolding faulty
returns c = refl
