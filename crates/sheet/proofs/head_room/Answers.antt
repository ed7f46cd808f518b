-- That `head_room` of src/lib.rt keeps its contract.
use mathlib.Core.Path.{refl}
use Rattle.sheet.proofs.PageSizeLaws.{length-head}
use Rattle.sheet.proofs.head_room.Goals as goal

pub returns : goal.returns
returns c = record { value = refl; any = length-head }
