-- That `line_refusal` of src/lib.rt keeps its contract.
use mathlib.Core.Path.{◌∙◌}
use Rattle.steps.specs.Refusals.{line_refusal}
use Rattle.words.proofs.ChoiceLaws.{pick_true, pick-false}
use Rattle.steps.proofs.line_refusal.Goals as goal

pub returns-then-not-sound : goal.returns-then-not-sound
unfolding line_refusal
returns-then-not-sound c = pick-false _ c.if-not-sound.true

pub returns-then-line-inputs : goal.returns-then-line-inputs
unfolding line_refusal
returns-then-line-inputs c = pick_true _ c.if-line-inputs.true ∙ pick_true _ c.if-not-sound.false

pub returns : goal.returns
unfolding line_refusal
returns c = pick-false _ c.if-line-inputs.false ∙ pick_true _ c.if-not-sound.false
