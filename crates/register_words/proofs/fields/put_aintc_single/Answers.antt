-- That `put_aintc_single` of src/fields.rt keeps its contract.
use mathlib.Core.Path.{ap, ◌∙◌}
use Rattle.text.specs.Text.{write}
use Rattle.text.proofs.WriteLaws.{nothing}
use borrow.Author.Tests.{eq-eqb, ne_eqb}
use Rattle.words.proofs.ChoiceLaws.{pick_true, pick-false}
use Rattle.text.specs.Phrases.{bytes}
use Rattle.register_words.specs.Fields.{aintc_singles}
use Rattle.register_words.proofs.fields.put_aintc_single.Goals as goal

pub returns-then-o-eq16 : goal.returns-then-o-eq16
unfolding aintc_singles bytes
returns-then-o-eq16 c =
    c.put_pair.ensures
    ∙ ap (write _) (pick_true _ (eq-eqb _ _ c.if-o-eq16.true))

pub returns-then-o-eq72 : goal.returns-then-o-eq72
unfolding aintc_singles bytes
returns-then-o-eq72 c =
    c.put_pair-then-o-eq72.ensures
    ∙ ap (write _) (pick_true _ (eq-eqb _ _ c.if-o-eq72.true)
    ∙ pick-false _ (ne_eqb _ _ c.if-o-eq16.false))

pub returns-then-o-eq76 : goal.returns-then-o-eq76
unfolding aintc_singles bytes
returns-then-o-eq76 c =
    c.put_counted.ensures
    ∙ ap (write _) (pick_true _ (eq-eqb _ _ c.if-o-eq76.true)
    ∙ pick-false _ (ne_eqb _ _ c.if-o-eq72.false)
    ∙ pick-false _ (ne_eqb _ _ c.if-o-eq16.false))

pub returns-then-o-eq80 : goal.returns-then-o-eq80
unfolding aintc_singles bytes
returns-then-o-eq80 c =
    c.put_pair-then-o-eq80.ensures
    ∙ ap (write _) (pick_true _ (eq-eqb _ _ c.if-o-eq80.true)
    ∙ pick-false _ (ne_eqb _ _ c.if-o-eq76.false)
    ∙ pick-false _ (ne_eqb _ _ c.if-o-eq72.false)
    ∙ pick-false _ (ne_eqb _ _ c.if-o-eq16.false))

pub returns-then-o-eq104 : goal.returns-then-o-eq104
unfolding aintc_singles bytes
returns-then-o-eq104 c =
    c.put_counted-then-o-eq104.ensures
    ∙ ap (write _) (pick_true _ (eq-eqb _ _ c.if-o-eq104.true)
    ∙ pick-false _ (ne_eqb _ _ c.if-o-eq80.false)
    ∙ pick-false _ (ne_eqb _ _ c.if-o-eq76.false)
    ∙ pick-false _ (ne_eqb _ _ c.if-o-eq72.false)
    ∙ pick-false _ (ne_eqb _ _ c.if-o-eq16.false))

pub returns : goal.returns
unfolding aintc_singles bytes
returns c =
    nothing _
    ∙ ap (write _) (pick-false _ (ne_eqb _ _ c.if-o-eq104.false)
    ∙ pick-false _ (ne_eqb _ _ c.if-o-eq80.false)
    ∙ pick-false _ (ne_eqb _ _ c.if-o-eq76.false)
    ∙ pick-false _ (ne_eqb _ _ c.if-o-eq72.false)
    ∙ pick-false _ (ne_eqb _ _ c.if-o-eq16.false))
