-- That `no_names` of src/names.rt keeps its contract.
use Rattle.tables.specs.Named.{no_names}
use borrow.Author.Rules.{rules}
use Rattle.tables.proofs.names.no_names.Goals as goal

pub returns : goal.returns
unfolding no_names
returns c = search rules
