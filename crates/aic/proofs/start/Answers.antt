-- That `start` of src/lib.rt keeps its contract.
use Rattle.steps.specs.Refusals.{carried_out}
use Rattle.aic_record.specs.declared.Aic.{Aic}
use Rattle.aic.specs.Model.{start}
use mathlib.Core.Path.{ap}
use Rattle.aic.proofs.start.Goals as goal

pub returns : goal.returns
unfolding start
returns c = ap (λ (a : Aic). record { refusal = carried_out; aic = a }) c.reset_to-aic.ensures
