-- That `is_of` of src/lib.rt keeps its contract.
use Rattle.stack.specs.Bytes.{normal, is_of}
use Rattle.stack.proofs.is_of.Goals as goal

pub returns : goal.returns
unfolding is_of normal
returns c = rw c.has.ensures
