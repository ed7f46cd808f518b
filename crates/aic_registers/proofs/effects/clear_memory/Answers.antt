-- That `clear_memory` of src/effects.rt keeps its contract.
use Rattle.aic_registers.proofs.CallLaws.{cleared_by_lem}
use mathlib.Core.Path.{◌∙◌}
use Rattle.aic_registers.proofs.effects.clear_memory.Goals as goal

pub returns : goal.returns
returns c = c.with_memory.ensures ∙ cleared_by_lem _ _ _ _ _ c.edge_word.ensures c.meet.ensures c.drop_bits.ensures
