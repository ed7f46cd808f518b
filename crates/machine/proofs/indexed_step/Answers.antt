-- That `indexed_step` of src/lib.rt keeps its contract.
use mathlib.Core.Path.{ap, ◌∙◌}
use Rattle.cic_held.specs.declared.Prioritised.{Prioritised}
use Rattle.cic_held.specs.Held.{sound as indexed_sound}
use Rattle.cic_indexed.specs.Model.{step as indexed_step}
use Rattle.machine.specs.Steps.{after_indexed}
use Rattle.machine.proofs.indexed_step.Goals as goal

pub step_sound-a-requires : goal.step_sound-a-requires
step_sound-a-requires c = ap indexed_sound c.indexed.ensures ∙ c.requires

pub returns : goal.returns
returns c = ap (after_indexed c.args.m) (c.step_sound-a.ensures ∙ ap (λ (p : Prioritised). indexed_step p c.args.x.step) c.indexed.ensures)
