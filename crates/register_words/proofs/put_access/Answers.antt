-- That `put_access` of src/lib.rt keeps its contract.
use mathlib.Core.Path.{ap, ◌∙◌}
use Rattle.text.specs.Text.{write}
use borrow.Author.Tests.{lt-ltb, le-ltb}
use Rattle.words.proofs.ChoiceLaws.{pick_true, pick-false}
use Rattle.text.specs.Phrases.{bytes}
use Rattle.register_words.specs.Registers.{access_words}
use Rattle.register_words.proofs.put_access.Goals as goal

pub returns-then-privilege-gt1 : goal.returns-then-privilege-gt1
unfolding access_words bytes
returns-then-privilege-gt1 c =
    c.put_all.ensures
    ∙ ap (write _) (pick_true _ (lt-ltb _ _ c.if-privilege-gt1.true))

pub returns-then-kind : goal.returns-then-kind
unfolding access_words bytes
returns-then-kind c =
    c.put_beyond.ensures
    ∙ ap (write _) (pick_true _ c.if-kind.true
    ∙ pick-false _ (le-ltb _ _ c.if-privilege-gt1.false))

pub returns : goal.returns
unfolding access_words bytes
returns c =
    c.put_all-2.ensures
    ∙ ap (write _) (pick-false _ c.if-kind.false
    ∙ pick-false _ (le-ltb _ _ c.if-privilege-gt1.false))
