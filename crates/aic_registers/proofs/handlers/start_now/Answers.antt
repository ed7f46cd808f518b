-- That `start_now` of src/handlers.rt keeps its contract.
use native.Mathlib.Omega.{arith}
use Rattle.aic_sources.proofs.HandlerLaws.{priority_small}
use Rattle.aic_registers.proofs.CallLaws.{now-by}
use mathlib.Core.Path.{◌∙◌}
use Rattle.aic_registers.proofs.handlers.start_now.Goals as goal

pub returns : goal.returns
returns c = c.answer_of.ensures ∙ now-by _ _ _ _ _ c.priority_at-now.ensures c.start_at.ensures c.vector_at.ensures

pub overflow_cast-now : goal.overflow_cast-now
overflow_cast-now c = omega (arith, c.priority_at-now.ensures, priority_small c.args.s c.args.k)
