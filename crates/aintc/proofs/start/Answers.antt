-- That `start` of src/lib.rt keeps its contract.
use mathlib.Core.Path.{ap}
use Rattle.steps.specs.Refusals.{carried_out}
use Rattle.aintc_record.specs.declared.Aintc.{Aintc}
use Rattle.aintc_registers.specs.Model.{start}
use Rattle.aintc.proofs.start.Goals as goal

pub returns : goal.returns
unfolding start
returns c = ap (λ (a : Aintc). record { refusal = carried_out; aintc = a }) c.reset_to-aintc.ensures
