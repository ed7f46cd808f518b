-- That `put_aic` of src/fields.rt keeps its contract.
use mathlib.Core.Path.{ap, ◌∙◌}
use Rattle.text.specs.Text.{write}
use Rattle.text.proofs.WriteLaws.{nothing}
use borrow.Author.Tests.{eq-eqb, ne_eqb, lt-ltb, le-ltb}
use Rattle.words.proofs.ChoiceLaws.{pick_true, pick-false}
use Rattle.text.specs.Phrases.{bytes}
use Rattle.register_words.specs.Fields.{aic_fields}
use Rattle.register_words.proofs.fields.put_aic.Goals as goal

pub returns-then-o-lt128 : goal.returns-then-o-lt128
unfolding aic_fields bytes
returns-then-o-lt128 c =
    c.put_mode.ensures
    ∙ ap (write _) (pick_true _ (lt-ltb _ _ c.if-o-lt128.true))

pub returns-then-o-lt288 : goal.returns-then-o-lt288
unfolding aic_fields bytes
returns-then-o-lt288 c =
    nothing _
    ∙ ap (write _) (pick_true _ (lt-ltb _ _ c.if-o-lt288.true)
    ∙ pick-false _ (le-ltb _ _ c.if-o-lt128.false))

pub returns-then-o-lt304 : goal.returns-then-o-lt304
unfolding aic_fields bytes
returns-then-o-lt304 c =
    c.put_bits.ensures
    ∙ ap (write _) (pick_true _ (lt-ltb _ _ c.if-o-lt304.true)
    ∙ pick-false _ (le-ltb _ _ c.if-o-lt288.false)
    ∙ pick-false _ (le-ltb _ _ c.if-o-lt128.false))

pub returns-then-o-eq312 : goal.returns-then-o-eq312
unfolding aic_fields bytes
returns-then-o-eq312 c =
    c.put_pair.ensures
    ∙ ap (write _) (pick_true _ (eq-eqb _ _ c.if-o-eq312.true)
    ∙ pick-false _ (le-ltb _ _ c.if-o-lt304.false)
    ∙ pick-false _ (le-ltb _ _ c.if-o-lt288.false)
    ∙ pick-false _ (le-ltb _ _ c.if-o-lt128.false))

pub returns-then-o-lt320 : goal.returns-then-o-lt320
unfolding aic_fields bytes
returns-then-o-lt320 c =
    nothing _
    ∙ ap (write _) (pick_true _ (lt-ltb _ _ c.if-o-lt320.true)
    ∙ pick-false _ (ne_eqb _ _ c.if-o-eq312.false)
    ∙ pick-false _ (le-ltb _ _ c.if-o-lt304.false)
    ∙ pick-false _ (le-ltb _ _ c.if-o-lt288.false)
    ∙ pick-false _ (le-ltb _ _ c.if-o-lt128.false))

pub returns-then-o-lt328 : goal.returns-then-o-lt328
unfolding aic_fields bytes
returns-then-o-lt328 c =
    c.put_forced.ensures
    ∙ ap (write _) (pick_true _ (lt-ltb _ _ c.if-o-lt328.true)
    ∙ pick-false _ (le-ltb _ _ c.if-o-lt320.false)
    ∙ pick-false _ (ne_eqb _ _ c.if-o-eq312.false)
    ∙ pick-false _ (le-ltb _ _ c.if-o-lt304.false)
    ∙ pick-false _ (le-ltb _ _ c.if-o-lt288.false)
    ∙ pick-false _ (le-ltb _ _ c.if-o-lt128.false))

pub returns : goal.returns
unfolding aic_fields bytes
returns c =
    nothing _
    ∙ ap (write _) (pick-false _ (le-ltb _ _ c.if-o-lt328.false)
    ∙ pick-false _ (le-ltb _ _ c.if-o-lt320.false)
    ∙ pick-false _ (ne_eqb _ _ c.if-o-eq312.false)
    ∙ pick-false _ (le-ltb _ _ c.if-o-lt304.false)
    ∙ pick-false _ (le-ltb _ _ c.if-o-lt288.false)
    ∙ pick-false _ (le-ltb _ _ c.if-o-lt128.false))
