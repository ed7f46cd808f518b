-- That `write_refusal` of src/lib.rt keeps its contract.
use mathlib.Core.Path.{◌∙◌}
use borrow.Author.Tests.{eq-eqb, ne_eqb}
use Rattle.steps.specs.Refusals.{write_refusal}
use Rattle.words.proofs.ChoiceLaws.{pick_true, pick-false}
use Rattle.steps.proofs.write_refusal.Goals as goal

pub returns-then-not-sound : goal.returns-then-not-sound
unfolding write_refusal
returns-then-not-sound c = pick-false _ c.if-not-sound.true

pub returns-then-offset-ne0 : goal.returns-then-offset-ne0
unfolding write_refusal
returns-then-offset-ne0 c = pick-false _ (ne_eqb _ _ c.if-offset-ne0.true) ∙ pick_true _ c.if-not-sound.false

pub returns : goal.returns
unfolding write_refusal
returns c = c.write_access.ensures ∙ pick_true _ (eq-eqb _ _ c.if-offset-ne0.false) ∙ pick_true _ c.if-not-sound.false
