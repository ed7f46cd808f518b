-- That `outputs` of src/hosts.rt keeps its contract.
use Rattle.words.proofs.ChoiceLaws.{by-true, by-false}
use Rattle.cic_registers.specs.Hosts.{outputs}
use mathlib.Core.Path.{◌∙◌}
use Rattle.cic_registers.proofs.hosts.outputs.Goals as goal

pub returns-then-is_sound : goal.returns-then-is_sound
unfolding outputs
returns-then-is_sound c = c.shown.ensures ∙ by-true _ c.is_sound.ensures c.if-is_sound.true

pub returns : goal.returns
unfolding outputs
returns c = by-false _ c.is_sound.ensures c.if-is_sound.false
