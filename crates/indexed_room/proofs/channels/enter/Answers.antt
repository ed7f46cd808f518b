-- That `enter` of src/channels.rt keeps its contract.
use Rattle.indexed_room.proofs.WordLaws.{entered}
use Rattle.indexed_room.proofs.channels.enter.Goals as goal

pub returns : goal.returns
returns c = λ f d todo g h. entered h _ c.requires.1 _ g c.with_bit-word.ensures
