-- That `of_aic` of src/record.rt keeps its contract.
use Rattle.machine.proofs.record.of_aic.Goals as goal

pub returns : goal.returns
returns c = rw c.empty.ensures
