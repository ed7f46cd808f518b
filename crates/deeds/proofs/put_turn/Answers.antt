-- That `put_turn` of src/lib.rt keeps its contract.
use mathlib.Core.Path.{ap, ◌∙◌}
use Rattle.text.specs.Text.{write}
use Rattle.text.proofs.WriteLaws.{nothing}
use borrow.Author.Tests.{eq-eqb, ne_eqb}
use Rattle.words.proofs.ChoiceLaws.{pick_true, pick-false}
use Rattle.deeds.specs.Deeds.{turn_words}
use Rattle.deeds.proofs.put_turn.Goals as goal

pub returns-then-before-after : goal.returns-then-before-after
unfolding turn_words
returns-then-before-after c =
    nothing _
    ∙ ap (write _) (pick_true _ (eq-eqb _ _ c.if-before-after.true))

pub returns-then-after-eq1 : goal.returns-then-after-eq1
unfolding turn_words
returns-then-after-eq1 c =
    c.put_all.ensures
    ∙ ap (write _) (pick_true _ (eq-eqb _ _ c.if-after-eq1.true)
    ∙ pick-false _ (ne_eqb _ _ c.if-before-after.false))

pub returns : goal.returns
unfolding turn_words
returns c =
    c.put_all-2.ensures
    ∙ ap (write _) (pick-false _ (ne_eqb _ _ c.if-after-eq1.false)
    ∙ pick-false _ (ne_eqb _ _ c.if-before-after.false))
