-- That `number_from` of src/lib.rt keeps its contract.
use Rattle.words.proofs.ChoiceLaws.{pick_true, pick-false}
use borrow.Author.Tests.{lt-ltb, le-ltb}
use Rattle.board_wires.proofs.number_from.Goals as goal

pub returns-then-n-limit : goal.returns-then-n-limit
returns-then-n-limit c = pick_true _ (lt-ltb _ _ c.if-n-limit.true)

pub returns : goal.returns
returns c = pick-false _ (le-ltb _ _ c.if-n-limit.false)
