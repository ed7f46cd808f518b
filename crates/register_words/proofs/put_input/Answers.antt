-- That `put_input` of src/lib.rt keeps its contract.
use mathlib.Core.Path.{ap, ◌∙◌}
use Rattle.text.specs.Text.{write}
use Rattle.text.proofs.WriteLaws.{nothing}
use borrow.Author.Tests.{lt-ltb, le-ltb}
use Rattle.words.proofs.ChoiceLaws.{pick_true, pick-false}
use Rattle.text.specs.Phrases.{bytes}
use Rattle.register_words.specs.Registers.{input_words}
use Rattle.register_words.proofs.put_input.Goals as goal

pub returns-then-k-lt32 : goal.returns-then-k-lt32
unfolding input_words bytes
returns-then-k-lt32 c =
    c.put_counted.ensures
    ∙ ap (write _) (pick_true _ (lt-ltb _ _ c.if-k-lt32.true))

pub returns-then-k-lt40 : goal.returns-then-k-lt40
unfolding input_words bytes
returns-then-k-lt40 c =
    c.put_counted-then-k-lt40.ensures
    ∙ ap (write _) (pick_true _ (lt-ltb _ _ c.if-k-lt40.true)
    ∙ pick-false _ (le-ltb _ _ c.if-k-lt32.false))

pub returns : goal.returns
unfolding input_words bytes
returns c =
    nothing _
    ∙ ap (write _) (pick-false _ (le-ltb _ _ c.if-k-lt40.false)
    ∙ pick-false _ (le-ltb _ _ c.if-k-lt32.false))
