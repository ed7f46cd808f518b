-- That `set_memory` of src/effects.rt keeps its contract.
use Rattle.aic_registers.proofs.CallLaws.{set-by}
use mathlib.Core.Path.{◌∙◌}
use Rattle.aic_registers.proofs.effects.set_memory.Goals as goal

pub returns : goal.returns
returns c = c.with_memory.ensures ∙ set-by _ _ _ _ _ c.edge_word.ensures c.meet.ensures c.join.ensures
