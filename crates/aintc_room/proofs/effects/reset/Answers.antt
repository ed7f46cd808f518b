-- That `reset` of src/effects.rt keeps its contract.
use Rattle.aintc_room.proofs.EffectLaws.{reset-laid}
use Rattle.aintc_room.proofs.effects.reset.Goals as goal

pub returns : goal.returns
returns c = λ a h. reset-laid h _ _ _ _ _ _ c.fill.ensures c.fill-2.ensures c.fill-3.ensures c.fill-4.ensures c.fill-5.ensures c.fill-6.ensures
