-- That `size_of` of src/writes.rt keeps its contract.
use Rattle.cic_room.proofs.ReplyLaws.{size-told}
use Rattle.cic_room.proofs.writes.size_of.Goals as goal

pub returns : goal.returns
returns c = λ f d h. size-told h
