-- That `rises` of src/effects.rt keeps its contract.
use Rattle.aic_room.proofs.EffectLaws.{low_told, rises-told}
use Rattle.aic_room.proofs.effects.rises.Goals as goal

pub returns : goal.returns
returns c =
    λ a h. rises-told h _ c.requires _ _ _ _ _ _ (low_told h _ c.requires _ c.has-low.ensures) c.has.ensures c.at_level-was.ensures c.has-2.ensures c.at_level.ensures
