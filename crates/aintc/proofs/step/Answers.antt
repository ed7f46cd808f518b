-- That `step` of src/lib.rt keeps its contract.
use mathlib.Core.Path.{sym, ◌∙◌}
use Rattle.aintc_registers.proofs.CallLaws.{step-unsound}
use Rattle.aintc.proofs.step.Goals as goal

pub step_sound-requires : goal.step_sound-requires
step_sound-requires c = sym c.is_sound.ensures ∙ c.if-is_sound.true

pub returns : goal.returns
returns c = c.refusal_of.ensures ∙ step-unsound c.args.s c.args.privilege c.args.x (sym c.is_sound.ensures ∙ c.if-is_sound.false)
