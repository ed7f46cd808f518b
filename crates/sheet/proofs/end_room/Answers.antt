-- That `end_room` of src/lib.rt keeps its contract.
use mathlib.Core.Path.{refl}
use Rattle.sheet.proofs.PageSizeLaws.{length_end}
use Rattle.sheet.proofs.end_room.Goals as goal

pub returns : goal.returns
returns c = record { value = refl; any = λ t names lengths s. length_end t names lengths s }
