-- That `is_zero_side` of src/record.rt keeps its contract.
use mathlib.Core.Path.{refl}
use Rattle.board.specs.Sound.{zero_side}
use Rattle.board.proofs.record.is_zero_side.Goals as goal

pub returns : goal.returns
unfolding zero_side
returns c = refl
