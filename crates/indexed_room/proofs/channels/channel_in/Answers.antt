-- That `channel_in` of src/channels.rt keeps its contract.
use mathlib.Core.Path.{refl}
use Rattle.words.specs.Array.{byte_of}
use Rattle.words.proofs.ArrayLaws.{byte_of_lt}
use Rattle.indexed_room.proofs.channels.channel_in.Goals as goal

pub returns : goal.returns
unfolding byte_of
returns c = (refl, byte_of_lt _ _)
