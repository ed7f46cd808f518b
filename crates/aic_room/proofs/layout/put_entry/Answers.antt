-- That `put_entry` of src/layout.rt keeps its contract.
use Rattle.aic_room.proofs.CellLaws.{put_entry}
use Rattle.aic_room.proofs.layout.put_entry.Goals as goal

pub returns : goal.returns
returns c = λ a h e. put_entry h _ _ _ _ _ c.requires e
