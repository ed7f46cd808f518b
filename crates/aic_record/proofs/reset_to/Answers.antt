-- That `reset_to` of src/lib.rt keeps its contract.
use Rattle.aic_record.specs.Record.{reset}
use Rattle.aic_record.proofs.reset_to.Goals as goal

pub returns : goal.returns
unfolding reset
returns c = rw c.nothing_seen.ensures
