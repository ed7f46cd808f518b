-- That `force` of src/effects.rt keeps its contract.
use Rattle.aic_registers.proofs.CallLaws.{forced-by}
use mathlib.Core.Path.{◌∙◌}
use Rattle.aic_registers.proofs.effects.force.Goals as goal

pub returns : goal.returns
returns c = c.with_forced.ensures ∙ forced-by _ _ _ _ c.drop_bits.ensures c.join.ensures
