-- That `output_level` of src/lib.rt keeps its contract.
use mathlib.Core.Path.{ap, ◌∙◌}
use Rattle.coreinterrupt.specs.Side.{output_level}
use Rattle.coreinterrupt_room.proofs.output_level.Goals as goal

pub returns : goal.returns
returns c = λ k h. c.output_level.ensures ∙ ap output_level (c.side_in.ensures k h)
