-- That `moved` of src/sides.rt keeps its contract.
use Rattle.coreinterrupt.specs.Side.{moved}
use Rattle.words.proofs.ChoiceLaws.{pick_true, pick-false}
use borrow.Author.Tests.{lt-ltb, le-ltb}
use Rattle.coreinterrupt.proofs.sides.moved.Goals as goal

pub returns-then-k-s : goal.returns-then-k-s
unfolding moved
returns-then-k-s c = rw (c.with_inputs.ensures, c.with_bit.ensures) (pick_true _ (lt-ltb _ _ c.if-k-s.true))

pub returns : goal.returns
unfolding moved
returns c = pick-false _ (le-ltb _ _ c.if-k-s.false)
