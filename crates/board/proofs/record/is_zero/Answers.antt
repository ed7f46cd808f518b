-- That `is_zero` of src/record.rt keeps its contract.
use Rattle.board.specs.Sound.{zero_core}
use Rattle.words.proofs.TruthLaws.{and_parts}
use Rattle.board.proofs.record.is_zero.Goals as goal

pub returns : goal.returns
unfolding zero_core
returns c = and_parts c.is_zero_side.ensures c.is_zero_side-2.ensures
