-- That `refused_at` of src/lib.rt keeps its contract.
use Rattle.tables.specs.Reading.{refused_at}
use borrow.Author.Rules.{rules}
use Rattle.tables.proofs.refused_at.Goals as goal

pub returns : goal.returns
unfolding refused_at
returns c = search rules
