-- That `is_there` of src/lib.rt keeps its contract.
use Rattle.board.specs.Model.{is_there}
use mathlib.Core.Path.{refl}
use Rattle.board.proofs.is_there.Goals as goal

pub returns : goal.returns
unfolding is_there
returns c = refl
