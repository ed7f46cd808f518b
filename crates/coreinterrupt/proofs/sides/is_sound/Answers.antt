-- That `is_sound` of src/sides.rt keeps its contract.
use Rattle.coreinterrupt.specs.Side.{side_sound}
use Rattle.coreinterrupt.proofs.sides.is_sound.Goals as goal

pub returns : goal.returns
unfolding side_sound
returns c = rw (c.is_clean-3.ensures, c.is_clean-2.ensures, c.is_clean.ensures)
