-- That `put_forced` of src/layout.rt keeps its contract.
use Rattle.aic_room.proofs.CellLaws.{put_forced}
use mathlib.Core.Path.{refl}
use Rattle.aic_room.proofs.layout.put_forced.Goals as goal

pub returns : goal.returns
returns c = λ a h. put_forced h _ _ _ _ _ refl c.join-fast.ensures c.drop_bits.ensures c.meet.ensures
