-- That `source_within` of src/lib.rt keeps its contract.
use Rattle.stack.specs.Bytes.{source_within}
use borrow.Author.Rules.{rules}
use Rattle.stack.proofs.source_within.Goals as goal

pub returns : goal.returns
unfolding source_within
returns c = search rules
