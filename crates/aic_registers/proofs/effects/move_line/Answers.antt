-- That `move_line` of src/effects.rt keeps its contract.
use Rattle.aic_registers.proofs.CallLaws.{moved_by}
use mathlib.Core.Path.{◌∙◌}
use Rattle.aic_registers.proofs.effects.move_line.Goals as goal

pub returns : goal.returns
returns c = c.with_lines.ensures ∙ moved_by _ _ _ _ _ c.remember.ensures c.with_bit.ensures
