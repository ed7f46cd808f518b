-- That `wisteria_line` of src/lib.rt keeps its contract.
use mathlib.Core.Path.{refl}
use Rattle.machine_room.proofs.ControllerLaws.{stepped_to}
use Rattle.exports.proofs.wisteria_line.Goals as goal

pub returns : goal.returns
returns c = (_, stepped_to c.refusal_in.ensures refl c.line-a.ensures)
