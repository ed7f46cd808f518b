-- That `wisteria_write` of src/lib.rt keeps its contract.
use mathlib.Core.Path.{refl}
use Rattle.machine_room.proofs.ControllerLaws.{stepped_to}
use Rattle.exports.proofs.wisteria_write.Goals as goal

pub returns : goal.returns
returns c = (_, stepped_to c.refusal_in.ensures refl c.write-a.ensures)
