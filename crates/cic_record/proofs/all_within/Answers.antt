-- That `all_within` of src/lib.rt keeps its contract.
use Rattle.cic_record.specs.Start.{configured}
use Rattle.cic_record.proofs.all_within.Goals as goal

pub returns : goal.returns
unfolding configured
returns c = cc
