-- That `turns_active` of src/effects.rt keeps its contract.
use Rattle.aic_registers.proofs.CallLaws.{turns-by}
use Rattle.aic_registers.proofs.effects.turns_active.Goals as goal

pub returns : goal.returns
returns c = turns-by _ _ _ _ _ _ c.has.ensures c.is_active_at-before.ensures c.is_active_at-after.ensures
