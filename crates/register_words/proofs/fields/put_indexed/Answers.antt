-- That `put_indexed` of src/fields.rt keeps its contract.
use mathlib.Core.Path.{ap, ◌∙◌}
use Rattle.text.specs.Text.{write}
use borrow.Author.Tests.{eq-eqb, ne_eqb}
use Rattle.words.proofs.ChoiceLaws.{pick_true, pick-false}
use Rattle.text.specs.Phrases.{bytes}
use Rattle.register_words.specs.Fields.{indexed_fields}
use Rattle.register_words.proofs.fields.put_indexed.Goals as goal

pub returns-then-o-eq4 : goal.returns-then-o-eq4
unfolding indexed_fields bytes
returns-then-o-eq4 c =
    c.put_counted.ensures
    ∙ ap (write _) (pick_true _ (eq-eqb _ _ c.if-o-eq4.true))

pub returns : goal.returns
unfolding indexed_fields bytes
returns c =
    c.put_cic.ensures
    ∙ ap (write _) (pick-false _ (ne_eqb _ _ c.if-o-eq4.false))
