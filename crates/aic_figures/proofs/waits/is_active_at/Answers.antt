-- That `is_active_at` of src/waits.rt keeps its contract.
use Rattle.aic_figures.proofs.RoomLaws.{active-low, active-high}
use Rattle.aic_figures.proofs.waits.is_active_at.Goals as goal

pub returns-then-has : goal.returns-then-has
returns-then-has c = λ s h. active-low h _ c.requires _ c.has.ensures c.if-has.true

pub returns : goal.returns
returns c = λ s h. active-high h _ c.requires _ c.has.ensures c.if-has.false
