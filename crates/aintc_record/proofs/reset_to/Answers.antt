-- That `reset_to` of src/lib.rt keeps its contract.
use Rattle.aintc_record.specs.Record.{reset, blank}
use Rattle.aintc_record.proofs.reset_to.Goals as goal

pub returns : goal.returns
unfolding reset blank
returns c = rw c.blank.ensures
