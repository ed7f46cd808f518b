-- That `capped_at` of src/lib.rt keeps its contract.
use Rattle.tables.specs.Passes.{capped}
use borrow.Author.Rules.{rules}
use Rattle.tables.proofs.capped_at.Goals as goal

pub returns : goal.returns
unfolding capped
returns c = search rules
