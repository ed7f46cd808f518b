-- That `with_core` of src/record.rt keeps its contract.
use Rattle.board.specs.Record.{with_core}
use mathlib.Core.Path.{refl}
use Rattle.board.proofs.record.with_core.Goals as goal

pub returns : goal.returns
unfolding with_core
returns c = refl
