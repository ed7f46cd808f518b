-- That `least` of src/lib.rt keeps its contract.
use mathlib.Core.Path.{refl}
use Rattle.aic_levels.proofs.LeastLaws.{least-none, least_full, least-over}
use Rattle.aic_levels.proofs.least.Goals as goal

pub returns-then-depth-eq0 : goal.returns-then-depth-eq0
returns-then-depth-eq0 c s e f = least-none s _ f c.if-depth-eq0.true

pub returns-then-depth-ge8 : goal.returns-then-depth-ge8
returns-then-depth-ge8 c s e f = least_full s _ f c.if-depth-ge8.true

pub returns : goal.returns
returns c s e f = least-over s _ _ _ _ e f c.if-depth-eq0.false c.if-depth-ge8.false refl c.floor_over.ensures
