-- That `room` of src/main.rt keeps its contract.
use mathlib.Core.Path.{refl}
use Rattle.table_text.proofs.Promises.{kept}
use Rattle.table_run.proofs.room.Goals as goal

pub returns : goal.returns
returns c = record { value = refl; any = kept.most }
