-- That `loses` of src/figures.rt keeps its contract.
use Rattle.aic_bounds.specs.Over.{loses}
use borrow.Author.Rules.{rules}
use Rattle.aic_bounds.proofs.figures.loses.Goals as goal

pub returns : goal.returns
unfolding loses
returns c = search rules
