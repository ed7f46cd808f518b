-- That `says_nothing` of src/statements.rt keeps its contract.
use mathlib.Core.Path.{refl}
use Rattle.encode.specs.Statements.{silent}
use Rattle.encode.proofs.statements.says_nothing.Goals as goal

pub returns : goal.returns
unfolding silent
returns c = refl
