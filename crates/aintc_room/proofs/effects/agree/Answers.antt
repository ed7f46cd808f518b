-- That `agree` of src/effects.rt keeps its contract.
use Rattle.aintc_room.proofs.CellLaws.{laid_as}
use Rattle.aintc_room.proofs.EffectLaws.{both-agreed}
use Rattle.aintc_room.proofs.effects.agree.Goals as goal

pub returns : goal.returns
returns c = λ a h. laid_as (both-agreed a _ _ _ c.has.ensures c.has-2.ensures) (c.release-2.ensures _ (c.release.ensures a h))
