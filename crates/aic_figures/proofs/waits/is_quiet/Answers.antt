-- That `is_quiet` of src/waits.rt keeps its contract.
use Rattle.aic_figures.specs.WaitsBook.{is_quiet}
use borrow.Author.Rules.{rules}
use Rattle.aic_figures.proofs.waits.is_quiet.Goals as goal

pub returns : goal.returns
unfolding is_quiet
returns c = search rules
