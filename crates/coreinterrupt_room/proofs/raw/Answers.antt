-- That `raw` of src/lib.rt keeps its contract.
use mathlib.Core.Path.{ap₂, ◌∙◌}
use Rattle.coreinterrupt.specs.Side.{raw}
use Rattle.words.specs.Word.{either}
use Rattle.coreinterrupt_room.proofs.RoomLaws.{inputs-is, soft-is}
use Rattle.coreinterrupt_room.proofs.raw.Goals as goal

pub returns : goal.returns
unfolding raw
returns c =
    let e = c.first_of-at.ensures.0 in
    λ k h. c.join.ensures ∙ ap₂ either (inputs-is h _ _ e) (soft-is h _ _ e)
