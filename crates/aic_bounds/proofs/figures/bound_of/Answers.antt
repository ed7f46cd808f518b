-- That `bound_of` of src/figures.rt keeps its contract.
use Rattle.aic_bounds.specs.Bounds.{bound_of}
use borrow.Author.Rules.{rules}
use Rattle.aic_bounds.proofs.figures.bound_of.Goals as goal

pub returns : goal.returns
unfolding bound_of
returns c = search rules
