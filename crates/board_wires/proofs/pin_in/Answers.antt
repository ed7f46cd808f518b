-- That `pin_in` of src/lib.rt keeps its contract.
use Rattle.board_wires.specs.Wires.{pin_in}
use borrow.Author.Tests.{lt-ltb, le-ltb}
use Rattle.board_wires.proofs.pin_in.Goals as goal

pub returns-then-p-lt320 : goal.returns-then-p-lt320
unfolding pin_in
returns-then-p-lt320 c = simp (lt-ltb _ _ c.if-p-lt320.true)

pub returns : goal.returns
unfolding pin_in
returns c = simp (le-ltb _ _ c.if-p-lt320.false)
