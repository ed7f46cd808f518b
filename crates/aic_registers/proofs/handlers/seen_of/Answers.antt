-- That `seen_of` of src/handlers.rt keeps its contract.
use native.Mathlib.Omega.{arith}
use Rattle.aic_sources.proofs.HandlerLaws.{priority_small}
use Rattle.aic_registers.proofs.CallLaws.{seen-from}
use Rattle.aic_registers.proofs.handlers.seen_of.Goals as goal

pub returns : goal.returns
returns c = seen-from _ _ _ _ c.priority_at-level.ensures c.vector_at-vector.ensures

pub overflow_cast-result-2 : goal.overflow_cast-result-2
overflow_cast-result-2 c = omega (arith, c.priority_at-level.ensures, priority_small c.args.s c.args.k)
