-- That `access` of src/lib.rt keeps its contract.
use Rattle.coreinterrupt.specs.Side.{side_access}
use Rattle.coreinterrupt.specs.Model.{fiq_offset, access}
use mathlib.Core.Path.{ap₂, ◌∙◌}
use Rattle.coreinterrupt.proofs.access.Goals as goal

pub returns : goal.returns
unfolding access fiq_offset
returns c = c.access.ensures ∙ ap₂ side_access c.side.ensures c.register.ensures
