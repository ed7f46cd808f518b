-- That `put_below` of src/lib.rt keeps its contract.
use mathlib.Core.Path.{ap, ◌∙◌}
use Rattle.text.specs.Text.{write}
use Rattle.text.proofs.WriteLaws.{nothing}
use borrow.Author.Tests.{lt-ltb, le-ltb}
use Rattle.words.proofs.ChoiceLaws.{pick_true, pick-false}
use Rattle.register_words.specs.Registers.{below}
use Rattle.register_words.proofs.put_below.Goals as goal

pub returns-then-k-n : goal.returns-then-k-n
unfolding below
returns-then-k-n c =
    c.put_counted.ensures
    ∙ ap (write _) (pick_true _ (lt-ltb _ _ c.if-k-n.true))

pub returns : goal.returns
unfolding below
returns c =
    nothing _
    ∙ ap (write _) (pick-false _ (le-ltb _ _ c.if-k-n.false))
