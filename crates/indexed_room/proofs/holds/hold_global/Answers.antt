-- That `hold_global` of src/holds.rt keeps its contract.
use Rattle.indexed_room.proofs.HoldLaws.{put_global}
use Rattle.indexed_room.proofs.holds.hold_global.Goals as goal

pub returns : goal.returns
returns c = λ p h. put_global p h _
