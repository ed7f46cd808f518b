-- That `told_of` of src/turns.rt keeps its contract.
use native.Mathlib.Omega.{arith}
use Rattle.trace.proofs.turns.told_of.Goals as goal

pub returns-in-Ended : goal.returns-in-Ended
returns-in-Ended c = (rw c.in-Ended.is c.ended.ensures.0, omega (arith, c.ended.ensures.1), c.ended.ensures.2)

pub returns-in-Found : goal.returns-in-Found
returns-in-Found c = (rw c.in-Found.is c.by_step.ensures.0, c.by_step.ensures.1, c.by_step.ensures.2)
