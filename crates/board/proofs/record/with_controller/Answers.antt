-- That `with_controller` of src/record.rt keeps its contract.
use Rattle.board.specs.Record.{with_controller}
use mathlib.Core.Path.{refl}
use Rattle.board.proofs.record.with_controller.Goals as goal

pub returns : goal.returns
unfolding with_controller
returns c = refl
