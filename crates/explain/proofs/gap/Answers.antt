-- That `gap` of src/lib.rt keeps its contract.
use Rattle.words.proofs.ChoiceLaws.{pick_true, pick-false}
use borrow.Author.Tests.{lt-ltb, le-ltb}
use Rattle.explain.specs.Stated.{gap}
use Rattle.explain.proofs.gap.Goals as goal

pub returns-then-n-ge28 : goal.returns-then-n-ge28
unfolding gap
returns-then-n-ge28 c = pick-false _ (le-ltb _ _ c.if-n-ge28.true)

pub returns : goal.returns
unfolding gap
returns c = pick_true _ (lt-ltb _ _ c.if-n-ge28.false)
