-- That `blank` of src/lib.rt keeps its contract.
use mathlib.Core.Path.{refl}
use Rattle.aintc_record.specs.Record.{blank}
use Rattle.aintc_record.proofs.blank.Goals as goal

pub returns : goal.returns
unfolding blank
returns c = refl
