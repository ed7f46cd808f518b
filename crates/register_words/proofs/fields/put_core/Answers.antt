-- That `put_core` of src/fields.rt keeps its contract.
use mathlib.Core.Path.{ap, ◌∙◌}
use Rattle.text.specs.Text.{write}
use Rattle.text.proofs.WriteLaws.{nothing}
use borrow.Author.Tests.{lt-ltb, le-ltb}
use Rattle.words.proofs.ChoiceLaws.{pick_true, pick-false}
use Rattle.register_words.specs.Fields.{core_fields}
use Rattle.register_words.proofs.fields.put_core.Goals as goal

pub returns-then-o-lt16 : goal.returns-then-o-lt16
unfolding core_fields
returns-then-o-lt16 c =
    c.put_side.ensures
    ∙ ap (write _) (pick_true _ (lt-ltb _ _ c.if-o-lt16.true))

pub returns-then-o-lt24 : goal.returns-then-o-lt24
unfolding core_fields
returns-then-o-lt24 c =
    nothing _
    ∙ ap (write _) (pick_true _ (lt-ltb _ _ c.if-o-lt24.true)
    ∙ pick-false _ (le-ltb _ _ c.if-o-lt16.false))

pub returns-then-o-lt40 : goal.returns-then-o-lt40
unfolding core_fields
returns-then-o-lt40 c =
    c.put_side-then-o-lt40.ensures
    ∙ ap (write _) (pick_true _ (lt-ltb _ _ c.if-o-lt40.true)
    ∙ pick-false _ (le-ltb _ _ c.if-o-lt24.false)
    ∙ pick-false _ (le-ltb _ _ c.if-o-lt16.false))

pub returns : goal.returns
unfolding core_fields
returns c =
    nothing _
    ∙ ap (write _) (pick-false _ (le-ltb _ _ c.if-o-lt40.false)
    ∙ pick-false _ (le-ltb _ _ c.if-o-lt24.false)
    ∙ pick-false _ (le-ltb _ _ c.if-o-lt16.false))
