-- That `put_numbers` of src/fields.rt keeps its contract.
use mathlib.Core.Path.{ap, ◌∙◌}
use Rattle.text.specs.Text.{write}
use borrow.Author.Tests.{eq-eqb, ne_eqb}
use Rattle.words.proofs.ChoiceLaws.{pick_true, pick-false}
use Rattle.text.specs.Phrases.{bytes}
use Rattle.register_words.proofs.FieldLaws.{more_as}
use Rattle.register_words.proofs.fields.put_numbers.Goals as goal

pub returns-then-w-eq0 : goal.returns-then-w-eq0
unfolding bytes
returns-then-w-eq0 c =
    c.put_all.ensures ∙ ap (write _) (pick_true _ (eq-eqb _ _ c.if-w-eq0.true))

pub returns : goal.returns
unfolding bytes
returns c =
    more_as _ _ _ _ _ _ c.put_told-a.ensures c.put_more.ensures c.count-n.ensures
    ∙ ap (write _) (pick-false _ (ne_eqb _ _ c.if-w-eq0.false))
