-- That `is_low` of src/record.rt keeps its contract.
use mathlib.Core.Path.{refl}
use Rattle.board.specs.Sound.{low}
use Rattle.board.proofs.record.is_low.Goals as goal

pub returns : goal.returns
unfolding low
returns c = refl
