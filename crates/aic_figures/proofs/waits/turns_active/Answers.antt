-- That `turns_active` of src/waits.rt keeps its contract.
use mathlib.Core.Path.{ap₂}
use mathlib.Core.Bool.{Bool, not, ◌&&◌}
use Rattle.aic_registers.specs.Effects.{turns}
use Rattle.aic_figures.proofs.waits.turns_active.Goals as goal

pub returns : goal.returns
unfolding turns
returns c = λ s h. ap₂ (λ (x y : Bool). not x && y) (c.is_active.ensures s h) (c.is_active_at.ensures s h)
