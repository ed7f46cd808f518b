-- That `sure` of src/turns.rt keeps its contract.
use native.Mathlib.Omega.{arith}
use Rattle.trace.proofs.turns.sure.Goals as goal

pub returns-then-q-eq-UNSURE : goal.returns-then-q-eq-UNSURE
returns-then-q-eq-UNSURE c = c.slow.ensures

pub returns : goal.returns
returns c = (c.requires.0 c.if-q-eq-UNSURE.false, omega (arith, c.requires.1, c.if-q-eq-UNSURE.false), c.requires.2 c.if-q-eq-UNSURE.false)
