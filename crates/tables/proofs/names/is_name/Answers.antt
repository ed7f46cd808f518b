-- That `is_name` of src/names.rt keeps its contract.
use Rattle.tables.specs.Names.{is_name}
use Rattle.tables.proofs.names.is_name.Goals as goal

pub returns : goal.returns
unfolding is_name
returns c = rw c.is_white.ensures
