-- That `goes_astray` of src/statements.rt keeps its contract.
use mathlib.Core.Path.{refl}
use Rattle.encode.specs.Statements.{astray}
use Rattle.encode.proofs.statements.goes_astray.Goals as goal

pub returns : goal.returns
unfolding astray
returns c = refl
