-- That `write_mode` of src/effects.rt keeps its contract.
use Rattle.aic_registers.proofs.CallLaws.{moded-by}
use mathlib.Core.Path.{◌∙◌}
use Rattle.aic_registers.proofs.effects.write_mode.Goals as goal

pub returns : goal.returns
returns c = c.put_mode.ensures ∙ moded-by _ _ _ _ _ c.forget_other_type.ensures c.kept_of.ensures
