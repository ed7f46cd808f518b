-- That `status` of src/lib.rt keeps its contract.
use mathlib.Core.Path.{ap₂, ◌∙◌}
use Rattle.coreinterrupt.specs.Side.{status}
use Rattle.words.specs.Word.{both}
use Rattle.coreinterrupt_room.proofs.RoomLaws.{enable-is}
use Rattle.coreinterrupt_room.proofs.status.Goals as goal

pub returns : goal.returns
unfolding status
returns c =
    λ k h. c.meet.ensures ∙ ap₂ both (c.raw.ensures k h) (enable-is h _ _ c.first_of-at.ensures.0)
