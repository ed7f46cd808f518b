-- That `is_active` of src/lib.rt keeps its contract.
use mathlib.Core.Path.{ap, ◌∙◌}
use Rattle.aic_sources.specs.Pending.{active, active_at}
use Rattle.aic_bounds.proofs.is_active.Goals as goal

pub returns : goal.returns
unfolding active
returns c = let a = c.args in c.is_active_at.ensures ∙ ap (active_at a.s a.k) c.has.ensures
