-- That `look_again` of src/channels.rt keeps its contract.
use Rattle.indexed_room.proofs.WordLaws.{looked_again}
use Rattle.indexed_room.proofs.channels.look_again.Goals as goal

pub returns : goal.returns
returns c =
    λ f d todo h. looked_again h _ c.requires.1 _ _ _ c.requires.0 c.members-of.ensures c.has_any.ensures c.with_bit-word.ensures
