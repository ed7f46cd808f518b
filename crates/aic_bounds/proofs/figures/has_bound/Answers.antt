-- That `has_bound` of src/figures.rt keeps its contract.
use Rattle.aic_bounds.specs.Over.{bounds}
use borrow.Author.Rules.{rules}
use Rattle.aic_bounds.proofs.figures.has_bound.Goals as goal

pub returns : goal.returns
unfolding bounds
returns c = search rules
