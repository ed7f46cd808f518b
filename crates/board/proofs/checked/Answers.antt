-- That `checked` of src/lib.rt keeps its contract.
use Rattle.board.specs.Model.{checked}
use Rattle.words.proofs.ChoiceLaws.{pick_true, pick-false, by-true, by-false}
use mathlib.Core.Path.{◌∙◌}
use Rattle.board.proofs.checked.Goals as goal

pub returns-then-not-is_sound : goal.returns-then-not-is_sound
unfolding checked
returns-then-not-is_sound c = by-false _ c.is_sound.ensures c.if-not-is_sound.true

pub returns-then-not-within : goal.returns-then-not-within
unfolding checked
returns-then-not-within c = pick-false _ c.if-not-within.true ∙ by-true _ c.is_sound.ensures c.if-not-is_sound.false

pub returns : goal.returns
unfolding checked
returns c = pick_true _ c.if-not-within.false ∙ by-true _ c.is_sound.ensures c.if-not-is_sound.false
