-- That `step` of src/lib.rt keeps its contract.
use Rattle.aic.proofs.CallLaws.{step-unsound}
use mathlib.Core.Path.{sym, ◌∙◌}
use Rattle.aic.proofs.step.Goals as goal

pub step_sound-requires : goal.step_sound-requires
step_sound-requires c = sym c.is_sound.ensures ∙ c.if-is_sound.true

pub returns : goal.returns
returns c = let a = c.args in
    c.refusal_of.ensures ∙ step-unsound a.s a.x (sym c.is_sound.ensures ∙ c.if-is_sound.false)
