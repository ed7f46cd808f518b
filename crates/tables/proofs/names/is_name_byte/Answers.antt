-- That `is_name_byte` of src/names.rt keeps its contract.
use mathlib.Core.Path.{refl}
use Rattle.tables.specs.Names.{name_byte}
use Rattle.tables.proofs.names.is_name_byte.Goals as goal

pub returns : goal.returns
unfolding name_byte
returns c = refl
