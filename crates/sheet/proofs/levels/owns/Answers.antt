-- That `owns` of src/levels.rt keeps its contract.
use Rattle.sheet.specs.Levels.{owns}
use Rattle.stack.specs.Bytes.{is_of}
use Rattle.sheet.proofs.levels.owns.Goals as goal

pub returns : goal.returns
unfolding owns is_of
returns c = rw c.is_normal.ensures
