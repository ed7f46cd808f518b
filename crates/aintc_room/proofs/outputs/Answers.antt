-- That `outputs` of src/lib.rt keeps its contract.
use Rattle.aintc_room.proofs.ReplyLaws.{outputs-told}
use Rattle.aintc_room.proofs.outputs.Goals as goal

pub returns : goal.returns
returns c = λ a ok h. outputs-told a ok h
