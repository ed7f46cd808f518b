-- That `slip_room` of src/main.rt keeps its contract.
use mathlib.Core.Path.{refl}
use Rattle.tables.proofs.SlipsPromises.{kept}
use Rattle.sheet_run.proofs.slip_room.Goals as goal

pub returns : goal.returns
returns c = record { value = refl; any = kept.most }
