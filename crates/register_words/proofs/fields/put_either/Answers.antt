-- That `put_either` of src/fields.rt keeps its contract.
use mathlib.Core.Path.{ap, ◌∙◌}
use Rattle.text.specs.Text.{write}
use Rattle.words.proofs.ChoiceLaws.{pick_true, pick-false}
use Rattle.register_words.proofs.fields.put_either.Goals as goal

pub returns-then-t : goal.returns-then-t
returns-then-t c =
    c.put_all.ensures
    ∙ ap (write _) (pick_true _ c.if-t.true)

pub returns : goal.returns
returns c =
    c.put_all-2.ensures
    ∙ ap (write _) (pick-false _ c.if-t.false)
