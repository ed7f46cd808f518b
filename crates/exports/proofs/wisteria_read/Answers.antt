-- That `wisteria_read` of src/lib.rt keeps its contract.
use Rattle.machine_room.proofs.ControllerLaws.{stepped_to}
use Rattle.exports.proofs.wisteria_read.Goals as goal

pub returns : goal.returns
returns c = stepped_to c.refusal_in.ensures c.value_in.ensures c.read-a.ensures
