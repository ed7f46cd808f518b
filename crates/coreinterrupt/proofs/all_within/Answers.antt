-- That `all_within` of src/lib.rt keeps its contract.
use Rattle.coreinterrupt.specs.Model.{all_within}
use Rattle.coreinterrupt.proofs.all_within.Goals as goal

pub returns : goal.returns
unfolding all_within
returns c = cc
