-- That `seen_in` of src/layout.rt keeps its contract.
use Rattle.aic_room.proofs.RecordLaws.{seen-told}
use Rattle.aic_room.proofs.layout.seen_in.Goals as goal

pub returns : goal.returns
returns c = λ a ok h. seen-told a ok h _ _ c.byte.ensures c.byte-2.ensures
