-- That `better` of src/figures.rt keeps its contract.
use Rattle.aic_bounds.proofs.FigureLaws.{better_second, better-first}
use Rattle.aic_bounds.proofs.figures.better.Goals as goal

pub returns-then-has_bound-bound_of : goal.returns-then-has_bound-bound_of
returns-then-has_bound-bound_of c =
    better_second _ _ c.has_bound.ensures c.bound_of.ensures c.bound_of-2.ensures c.if-has_bound-bound_of.true

pub returns : goal.returns
returns c =
    better-first _ _ c.has_bound.ensures c.bound_of.ensures c.bound_of-2.ensures c.if-has_bound-bound_of.false
