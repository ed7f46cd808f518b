-- That `is_sound` of src/lib.rt keeps its contract.
use Rattle.coreinterrupt.specs.Model.{sound}
use Rattle.coreinterrupt.proofs.is_sound.Goals as goal

pub returns : goal.returns
unfolding sound
returns c = rw (c.is_sound-2.ensures, c.is_sound.ensures)
