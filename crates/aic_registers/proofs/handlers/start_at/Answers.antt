-- That `start_at` of src/handlers.rt keeps its contract.
use Rattle.aic_registers.proofs.CallLaws.{started-by}
use mathlib.Core.Path.{◌∙◌}
use Rattle.aic_registers.proofs.handlers.start_at.Goals as goal

pub returns : goal.returns
returns c = c.put_handler.ensures ∙ started-by _ _ _ _ c.spend.ensures
