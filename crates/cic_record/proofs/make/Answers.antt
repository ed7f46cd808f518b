-- That `make` of src/lib.rt keeps its contract.
use Rattle.cic_record.specs.Start.{fresh}
use mathlib.Core.Path.{refl}
use Rattle.cic_record.proofs.make.Goals as goal

pub returns : goal.returns
unfolding fresh
returns c = refl
