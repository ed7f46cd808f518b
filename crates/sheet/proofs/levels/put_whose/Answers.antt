-- That `put_whose` of src/levels.rt keeps its contract.
use Rattle.text.specs.Phrases.{bytes}
use Rattle.sheet.specs.Levels.{whose}
use Rattle.text.specs.Text.{write}
use Rattle.words.proofs.ChoiceLaws.{pick-false, pick_true}
use borrow.Author.Tests.{le-ltb, lt-ltb}
use mathlib.Core.Path.{◌∙◌, ap}
use Rattle.sheet.proofs.levels.put_whose.Goals as goal

pub returns-then-t-n : goal.returns-then-t-n
unfolding whose bytes
returns-then-t-n c =
    rw (← c.level_bytes-n.ensures, ← c.owner-i.ensures)
    (c.put_called.ensures ∙ ap (write _) (pick_true _ (lt-ltb _ _ c.if-t-n.true)))

pub returns : goal.returns
unfolding whose bytes
returns c =
    rw (← c.level_bytes-n.ensures)
    (c.put_all.ensures ∙ ap (write _) (pick-false _ (le-ltb _ _ c.if-t-n.false)))
