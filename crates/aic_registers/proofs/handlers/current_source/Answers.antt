-- That `current_source` of src/handlers.rt keeps its contract.
use Rattle.aic_record.specs.Last.{last_source}
use Rattle.aic_registers.specs.Handlers.{current}
use Rattle.aic_registers.proofs.handlers.current_source.Goals as goal

pub returns : goal.returns
unfolding last_source current
returns c = c.last_source.ensures
