-- That `not_tallied` of src/lib.rt keeps its contract.
use Rattle.tally.proofs.not_tallied.Goals as goal

pub returns : goal.returns
returns c = rw c.none.ensures
