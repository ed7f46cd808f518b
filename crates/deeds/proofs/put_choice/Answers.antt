-- That `put_choice` of src/lib.rt keeps its contract.
use mathlib.Core.Path.{ap, ◌∙◌}
use Rattle.text.specs.Text.{write}
use Rattle.text.proofs.WriteLaws.{nothing}
use Rattle.words.proofs.ChoiceLaws.{pick_true, pick-false}
use Rattle.deeds.specs.Deeds.{choice_words}
use Rattle.deeds.proofs.put_choice.Goals as goal

pub returns-then-b : goal.returns-then-b
unfolding choice_words
returns-then-b c =
    c.put_chosen.ensures
    ∙ ap (write _) (pick_true _ c.if-b.true)

pub returns-then-a : goal.returns-then-a
unfolding choice_words
returns-then-a c =
    c.put_all.ensures
    ∙ ap (write _) (pick_true _ c.if-a.true
    ∙ pick-false _ c.if-b.false)

pub returns : goal.returns
unfolding choice_words
returns c =
    nothing _
    ∙ ap (write _) (pick-false _ c.if-a.false
    ∙ pick-false _ c.if-b.false)
