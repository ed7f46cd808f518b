-- That `put_level` of src/lib.rt keeps its contract.
use mathlib.Core.Path.{ap, ◌∙◌}
use Rattle.text.specs.Text.{write}
use borrow.Author.Tests.{lt-ltb, le-ltb}
use Rattle.words.proofs.ChoiceLaws.{pick_true, pick-false}
use Rattle.text.specs.Phrases.{bytes}
use Rattle.register_words.specs.Registers.{level_words}
use Rattle.register_words.proofs.put_level.Goals as goal

pub returns-then-l-gt1 : goal.returns-then-l-gt1
unfolding level_words bytes
returns-then-l-gt1 c =
    c.put_all.ensures
    ∙ ap (write _) (pick_true _ (lt-ltb _ _ c.if-l-gt1.true))

pub returns : goal.returns
unfolding level_words bytes
returns c =
    c.put_all-2.ensures
    ∙ ap (write _) (pick-false _ (le-ltb _ _ c.if-l-gt1.false))
