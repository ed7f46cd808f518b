-- That `put_cic_single` of src/fields.rt keeps its contract.
use mathlib.Core.Path.{ap, ◌∙◌}
use Rattle.text.specs.Text.{write}
use Rattle.text.proofs.WriteLaws.{nothing}
use borrow.Author.Tests.{eq-eqb, ne_eqb, lt-ltb, le-ltb}
use Rattle.words.proofs.ChoiceLaws.{pick_true, pick-false}
use Rattle.text.specs.Phrases.{bytes}
use Rattle.register_words.specs.Fields.{cic_singles}
use Rattle.register_words.proofs.fields.put_cic_single.Goals as goal

pub returns-then-o-eq16 : goal.returns-then-o-eq16
unfolding cic_singles bytes
returns-then-o-eq16 c =
    c.put_counted.ensures
    ∙ ap (write _) (pick_true _ (eq-eqb _ _ c.if-o-eq16.true))

pub returns-then-o-lt32 : goal.returns-then-o-lt32
unfolding cic_singles bytes
returns-then-o-lt32 c =
    nothing _
    ∙ ap (write _) (pick_true _ (lt-ltb _ _ c.if-o-lt32.true)
    ∙ pick-false _ (ne_eqb _ _ c.if-o-eq16.false))

pub returns-then-o-lt48 : goal.returns-then-o-lt48
unfolding cic_singles bytes
returns-then-o-lt48 c =
    c.put_counted-then-o-lt48.ensures
    ∙ ap (write _) (pick_true _ (lt-ltb _ _ c.if-o-lt48.true)
    ∙ pick-false _ (le-ltb _ _ c.if-o-lt32.false)
    ∙ pick-false _ (ne_eqb _ _ c.if-o-eq16.false))

pub returns-then-o-lt52 : goal.returns-then-o-lt52
unfolding cic_singles bytes
returns-then-o-lt52 c =
    nothing _
    ∙ ap (write _) (pick_true _ (lt-ltb _ _ c.if-o-lt52.true)
    ∙ pick-false _ (le-ltb _ _ c.if-o-lt48.false)
    ∙ pick-false _ (le-ltb _ _ c.if-o-lt32.false)
    ∙ pick-false _ (ne_eqb _ _ c.if-o-eq16.false))

pub returns-then-o-lt60 : goal.returns-then-o-lt60
unfolding cic_singles bytes
returns-then-o-lt60 c =
    c.put_counted-then-o-lt60.ensures
    ∙ ap (write _) (pick_true _ (lt-ltb _ _ c.if-o-lt60.true)
    ∙ pick-false _ (le-ltb _ _ c.if-o-lt52.false)
    ∙ pick-false _ (le-ltb _ _ c.if-o-lt48.false)
    ∙ pick-false _ (le-ltb _ _ c.if-o-lt32.false)
    ∙ pick-false _ (ne_eqb _ _ c.if-o-eq16.false))

pub returns : goal.returns
unfolding cic_singles bytes
returns c =
    nothing _
    ∙ ap (write _) (pick-false _ (le-ltb _ _ c.if-o-lt60.false)
    ∙ pick-false _ (le-ltb _ _ c.if-o-lt52.false)
    ∙ pick-false _ (le-ltb _ _ c.if-o-lt48.false)
    ∙ pick-false _ (le-ltb _ _ c.if-o-lt32.false)
    ∙ pick-false _ (ne_eqb _ _ c.if-o-eq16.false))
