-- That `floor_over` of src/lib.rt keeps its contract.
use mathlib.Core.Path.{refl}
use Rattle.aic_record.proofs.PassLaws.{floor-free, floor-over}
use Rattle.aic_record.proofs.floor_over.Goals as goal

pub returns-then-level-eq-NO_LEVEL : goal.returns-then-level-eq-NO_LEVEL
returns-then-level-eq-NO_LEVEL c = floor-free _ _ refl c.if-level-eq-NO_LEVEL.true

pub returns : goal.returns
returns c = floor-over _ _ refl c.if-level-eq-NO_LEVEL.false
