-- That `value_at` of src/lib.rt keeps its contract.
use Rattle.coreinterrupt.specs.Side.{side_read}
use Rattle.coreinterrupt.specs.Model.{fiq_offset, value_at}
use mathlib.Core.Path.{ap₂, ◌∙◌}
use Rattle.coreinterrupt.proofs.value_at.Goals as goal

pub returns : goal.returns
unfolding value_at fiq_offset
returns c = c.read.ensures ∙ ap₂ side_read c.side.ensures c.register.ensures
