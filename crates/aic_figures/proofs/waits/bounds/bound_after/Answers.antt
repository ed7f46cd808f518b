-- That `bound_after` of src/waits/bounds.rt keeps its contract.
use Rattle.aic_bounds.proofs.WordLaws.{by-idle, by-fresh, by-grown}
use Rattle.aic_figures.proofs.waits.bounds.bound_after.Goals as goal

pub returns-then-w-lt2 : goal.returns-then-w-lt2
returns-then-w-lt2 c = λ t ok h. by-idle _ _ _ _ _ t c.if-w-lt2.true c.idle.ensures

pub returns-then-b-lt2 : goal.returns-then-b-lt2
returns-then-b-lt2 c = λ t ok h. by-fresh _ _ _ _ _ t c.if-w-lt2.false c.if-b-lt2.true (c.fresh.ensures t ok h)

pub returns : goal.returns
returns c = λ t ok h. by-grown _ _ _ _ _ t c.if-w-lt2.false c.if-b-lt2.false (c.grown.ensures t ok h)
