-- That `last_source` of src/waits.rt keeps its contract.
use native.Mathlib.Omega.{arith}
use Rattle.aic_figures.proofs.RoomLaws.{last_at}
use Rattle.aic_figures.proofs.waits.last_source.Goals as goal

pub returns-then-depth-eq0 : goal.returns-then-depth-eq0
returns-then-depth-eq0 c = (omega arith, λ s ok h e n. absurd (n c.if-depth-eq0.true))

pub returns : goal.returns
returns c = (omega arith, λ s ok h e n. last_at h ok _ e n)
