-- That `wide` of src/frame.rt keeps its contract.
use Rattle.drawing.specs.Frame.{wide}
use Rattle.words.proofs.ChoiceLaws.{pick_true, pick-false}
use borrow.Author.Tests.{lt-ltb, le-ltb}
use Rattle.drawing.proofs.frame.wide.Goals as goal

pub returns-then-n-lt26 : goal.returns-then-n-lt26
unfolding wide
returns-then-n-lt26 c = pick_true _ (lt-ltb _ _ c.if-n-lt26.true)

pub returns-else-n-lt26 : goal.returns-else-n-lt26
unfolding wide
returns-else-n-lt26 c = pick-false _ (le-ltb _ _ c.if-n-lt26.false)
