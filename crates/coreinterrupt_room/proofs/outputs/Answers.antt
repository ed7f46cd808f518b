-- That `outputs` of src/lib.rt keeps its contract.
use Rattle.coreinterrupt_room.proofs.RoomLaws.{outputs-told}
use Rattle.coreinterrupt_room.proofs.outputs.Goals as goal

pub returns : goal.returns
returns c =
    λ k ok h. outputs-told k _ _ _ _ ok (c.is_active.ensures k h) (c.is_active-2.ensures k h) (c.output_level.ensures k h) (c.output_level-2.ensures k h)
