-- That `output_level` of src/sides.rt keeps its contract.
use Rattle.coreinterrupt.specs.Side.{output_level}
use Rattle.words.proofs.ChoiceLaws.{by-true, by-false}
use mathlib.Core.Path.{◌∙◌}
use Rattle.coreinterrupt.proofs.sides.output_level.Goals as goal

pub returns-then-active : goal.returns-then-active
unfolding output_level
returns-then-active c = by-true _ c.active.ensures c.if-active.true

pub returns : goal.returns
unfolding output_level
returns c = c.other.ensures ∙ by-false _ c.active.ensures c.if-active.false
