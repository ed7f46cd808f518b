-- That `is_sound` of src/lib.rt keeps its contract.
use Rattle.words.proofs.TruthLaws.{and_parts}
use Rattle.cic_held.specs.Held.{sound}
use Rattle.cic_held.proofs.is_sound.Goals as goal

pub returns : goal.returns
unfolding sound
returns c = and_parts c.is_sound.ensures c.held_sound.ensures
