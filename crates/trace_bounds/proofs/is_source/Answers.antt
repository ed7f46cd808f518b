-- That `is_source` of src/lib.rt keeps its contract.
use Rattle.trace_bounds.specs.Listing.{is_source}
use borrow.Author.Rules.{rules}
use Rattle.trace_bounds.proofs.is_source.Goals as goal

pub returns : goal.returns
unfolding is_source
returns c = search rules
