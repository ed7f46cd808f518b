-- That `better_if` of src/figures.rt keeps its contract.
use Rattle.words.specs.Choice.{pick}
use Rattle.aic_bounds.proofs.figures.better_if.Goals as goal

pub returns-then-ended : goal.returns-then-ended
unfolding pick
returns-then-ended c = rw c.if-ended.true c.better.ensures

pub returns : goal.returns
unfolding pick
returns c = rw c.if-ended.false
