-- That `renew` of src/layout.rt keeps its contract.
use Rattle.aic_room.proofs.LevelLaws.{renewed}
use Rattle.aic_room.proofs.layout.renew.Goals as goal

pub returns : goal.returns
returns c =
    λ a h. renewed a _ _ _ _ h (c.waiting-waits.ensures a h) c.renew_words.ensures c.levels_with_any-any.ensures
