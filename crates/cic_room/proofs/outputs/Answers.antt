-- That `outputs` of src/lib.rt keeps its contract.
use Rattle.cic_room.proofs.ReplyLaws.{outputs-told}
use Rattle.cic_room.proofs.outputs.Goals as goal

pub returns : goal.returns
returns c = λ f d on ok h. outputs-told f d on ok h
