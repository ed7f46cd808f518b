-- That `entered_as` of src/lib.rt keeps its contract.
use native.Mathlib.Omega.{arith}
use Rattle.std.proofs.lemmas.Grind.{common_steps}
use Rattle.tables.specs.Reading.{entered}
use Rattle.tables.proofs.entered_as.Goals as goal

pub returns : goal.returns
unfolding entered
returns c = grind (arith, common_steps)
