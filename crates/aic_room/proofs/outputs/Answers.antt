-- That `outputs` of src/lib.rt keeps its contract.
use Rattle.aic_room.proofs.CellLaws.{depth_is}
use Rattle.aic_room.proofs.ReplyLaws.{outputs-told}
use Rattle.aic_room.proofs.outputs.Goals as goal

pub returns : goal.returns
returns c = λ a ok h. outputs-told a _ _ _ ok (c.is_irq.ensures a h) (c.is_fiq.ensures a h) (depth_is h)
