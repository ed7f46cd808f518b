-- That `of_core` of src/record.rt keeps its contract.
use Rattle.machine.proofs.record.of_core.Goals as goal

pub returns : goal.returns
returns c = rw c.empty.ensures
