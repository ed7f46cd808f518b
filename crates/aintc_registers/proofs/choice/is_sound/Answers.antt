-- That `is_sound` of src/choice.rt keeps its contract.
use Rattle.words.proofs.TruthLaws.{and_parts}
use Rattle.aintc_registers.specs.Settle.{sound}
use Rattle.aintc_registers.proofs.choice.is_sound.Goals as goal

pub returns : goal.returns
unfolding sound
returns c = and_parts (and_parts c.is_bounded.ensures c.side_quiet.ensures) c.side_quiet-2.ensures
