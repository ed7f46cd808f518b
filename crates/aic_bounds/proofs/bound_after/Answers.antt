-- That `bound_after` of src/lib.rt keeps its contract.
use Rattle.aic_bounds.proofs.WordLaws.{by-idle, by-fresh, by-grown}
use Rattle.aic_bounds.proofs.bound_after.Goals as goal

pub returns-then-w-lt2 : goal.returns-then-w-lt2
returns-then-w-lt2 c = by-idle _ _ _ _ _ _ c.if-w-lt2.true c.idle.ensures

pub returns-then-b-lt2 : goal.returns-then-b-lt2
returns-then-b-lt2 c = by-fresh _ _ _ _ _ _ c.if-w-lt2.false c.if-b-lt2.true c.fresh.ensures

pub returns : goal.returns
returns c = by-grown _ _ _ _ _ _ c.if-w-lt2.false c.if-b-lt2.false c.grown.ensures
