-- That `is_white` of src/lib.rt keeps its contract.
use Rattle.tables.specs.Typed.{white}
use native.Mathlib.Omega.{arith}
use Rattle.std.proofs.lemmas.Grind.{common_steps}
use Rattle.tables.proofs.is_white.Goals as goal

pub returns-in_default : goal.returns-in_default
unfolding white
returns-in_default c = grind (arith, common_steps)

pub returns-in_default-2 : goal.returns-in_default-2
unfolding white
returns-in_default-2 c = grind (arith, common_steps)

pub returns-in-32 : goal.returns-in-32
unfolding white
returns-in-32 c = grind (arith, common_steps)

pub returns-in-32-2 : goal.returns-in-32-2
unfolding white
returns-in-32-2 c = grind (arith, common_steps)
