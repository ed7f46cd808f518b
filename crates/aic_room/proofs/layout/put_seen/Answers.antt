-- That `put_seen` of src/layout.rt keeps its contract.
use Rattle.aic_room.proofs.CellLaws.{put-seen}
use Rattle.aic_room.proofs.layout.put_seen.Goals as goal

pub returns : goal.returns
returns c = λ a h. put-seen h _ _ _ _
