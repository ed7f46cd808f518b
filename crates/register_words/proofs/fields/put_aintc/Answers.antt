-- That `put_aintc` of src/fields.rt keeps its contract.
use mathlib.Core.Path.{ap, ◌∙◌}
use Rattle.text.specs.Text.{write}
use Rattle.text.proofs.WriteLaws.{nothing}
use borrow.Author.Tests.{lt-ltb, le-ltb}
use Rattle.words.proofs.ChoiceLaws.{pick_true, pick-false}
use Rattle.text.specs.Phrases.{bytes}
use Rattle.register_words.specs.Fields.{aintc_fields}
use Rattle.register_words.proofs.fields.put_aintc.Goals as goal

pub returns-then-o-lt128 : goal.returns-then-o-lt128
unfolding aintc_fields bytes
returns-then-o-lt128 c =
    c.put_aintc_single.ensures
    ∙ ap (write _) (pick_true _ (lt-ltb _ _ c.if-o-lt128.true))

pub returns-then-o-lt256 : goal.returns-then-o-lt256
unfolding aintc_fields bytes
returns-then-o-lt256 c =
    c.put_bits.ensures
    ∙ ap (write _) (pick_true _ (lt-ltb _ _ c.if-o-lt256.true)
    ∙ pick-false _ (le-ltb _ _ c.if-o-lt128.false))

pub returns-then-o-lt768 : goal.returns-then-o-lt768
unfolding aintc_fields bytes
returns-then-o-lt768 c =
    c.put_route.ensures
    ∙ ap (write _) (pick_true _ (lt-ltb _ _ c.if-o-lt768.true)
    ∙ pick-false _ (le-ltb _ _ c.if-o-lt256.false)
    ∙ pick-false _ (le-ltb _ _ c.if-o-lt128.false))

pub returns : goal.returns
unfolding aintc_fields bytes
returns c =
    nothing _
    ∙ ap (write _) (pick-false _ (le-ltb _ _ c.if-o-lt768.false)
    ∙ pick-false _ (le-ltb _ _ c.if-o-lt256.false)
    ∙ pick-false _ (le-ltb _ _ c.if-o-lt128.false))
