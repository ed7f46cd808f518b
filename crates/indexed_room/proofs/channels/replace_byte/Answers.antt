-- That `replace_byte` of src/channels.rt keeps its contract.
use Rattle.indexed_room.proofs.WordLaws.{by_bytes}
use Rattle.indexed_room.proofs.channels.replace_byte.Goals as goal

pub returns : goal.returns
returns c = λ f d rest g h. by_bytes f d rest c.channel_in-from.ensures.0 c.channel_in-to.ensures.0 (c.replace.ensures f d rest) g h
