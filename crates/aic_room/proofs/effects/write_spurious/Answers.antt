-- That `write_spurious` of src/effects.rt keeps its contract.
use Rattle.aic_room.proofs.CellLaws.{put-spurious}
use Rattle.aic_room.proofs.effects.write_spurious.Goals as goal

pub returns : goal.returns
returns c = λ a h. put-spurious h _
