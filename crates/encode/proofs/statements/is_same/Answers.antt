-- That `is_same` of src/statements.rt keeps its contract.
use mathlib.Core.Path.{◌∙◌}
use Rattle.encode.proofs.WordLaws.{same-is}
use Rattle.encode.proofs.statements.is_same.Goals as goal

pub returns : goal.returns
returns c = c.eq.ensures ∙ same-is _ _
