-- That `put_sides` of src/lib.rt keeps its contract.
use Rattle.deeds.proofs.TextLaws.{sides_text}
use Rattle.text.specs.Phrases.{bytes}
use Rattle.deeds.proofs.put_sides.Goals as goal

pub returns : goal.returns
unfolding bytes
returns c =
    sides_text _ _ _ _ _ _ _ c.put_turn-n.ensures c.put_turn.ensures c.shown-a.ensures c.shown-b.ensures
