-- That `lower` of src/chain.rt keeps its contract.
use Rattle.words.proofs.ChoiceLaws.{pick_true, pick-false}
use borrow.Author.Tests.{lt-ltb, le-ltb}
use native.Mathlib.Omega.{arith}
use Rattle.board_wires.proofs.chain.lower.Goals as goal

pub returns-then-c-lt8 : goal.returns-then-c-lt8
returns-then-c-lt8 c = (pick_true _ (lt-ltb _ _ c.if-c-lt8.true), omega arith, omega (arith, c.if-c-lt8.true))

pub returns : goal.returns
returns c = (pick-false _ (le-ltb _ _ c.if-c-lt8.false), omega arith, omega arith)
