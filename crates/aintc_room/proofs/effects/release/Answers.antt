-- That `release` of src/effects.rt keeps its contract.
use Rattle.aintc_room.proofs.EffectLaws.{freed, not_freed}
use Rattle.aintc_room.proofs.effects.release.Goals as goal

pub returns-then-agreed : goal.returns-then-agreed
returns-then-agreed c = λ a h. freed h _ c.args.fast _ c.place_of-at.ensures.0 c.if-agreed.true

pub returns-else-agreed : goal.returns-else-agreed
returns-else-agreed c = λ a h. not_freed h _ c.args.fast c.if-agreed.false
