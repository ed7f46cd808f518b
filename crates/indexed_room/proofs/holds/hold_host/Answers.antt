-- That `hold_host` of src/holds.rt keeps its contract.
use Rattle.indexed_room.proofs.HoldLaws.{put_host}
use Rattle.indexed_room.proofs.holds.hold_host.Goals as goal

pub returns : goal.returns
returns c = λ p h. put_host p h _ _ c.requires
