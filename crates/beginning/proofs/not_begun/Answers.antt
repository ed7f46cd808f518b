-- That `not_begun` of src/lib.rt keeps its contract.
use Rattle.beginning.proofs.not_begun.Goals as goal

pub returns : goal.returns
returns c = rw c.empty-m.ensures
