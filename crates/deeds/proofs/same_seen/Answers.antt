-- That `same_seen` of src/lib.rt keeps its contract.
use mathlib.Core.Path.{refl}
use Rattle.deeds.specs.Deeds.{same_seen}
use Rattle.deeds.proofs.same_seen.Goals as goal

pub returns : goal.returns
unfolding same_seen
returns c = refl
