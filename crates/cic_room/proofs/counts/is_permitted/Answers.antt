-- That `is_permitted` of src/counts.rt keeps its contract.
use Rattle.cic_room.proofs.AssertLaws.{permitted-is}
use Rattle.cic_room.proofs.counts.is_permitted.Goals as goal

pub returns : goal.returns
returns c = λ f d h. permitted-is h c.args.h.0 c.requires _ c.has-own.ensures
