-- That `step` of src/lib.rt keeps its contract.
use mathlib.Core.Path.{sym, ◌∙◌}
use Rattle.machine.proofs.StepLaws.{unsound-step}
use Rattle.machine.proofs.step.Goals as goal

pub step_sound-requires : goal.step_sound-requires
step_sound-requires c = sym c.is_sound.ensures ∙ c.if-is_sound.true

pub returns-then-is_sound : goal.returns-then-is_sound
returns-then-is_sound c = c.step_sound.ensures

pub returns : goal.returns
returns c = unsound-step _ _ (sym c.is_sound.ensures ∙ c.if-is_sound.false)
