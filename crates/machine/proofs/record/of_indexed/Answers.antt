-- That `of_indexed` of src/record.rt keeps its contract.
use Rattle.machine.proofs.record.of_indexed.Goals as goal

pub returns : goal.returns
returns c = rw c.empty.ensures
