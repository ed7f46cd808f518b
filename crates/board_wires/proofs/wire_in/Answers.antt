-- That `wire_in` of src/lib.rt keeps its contract.
use Rattle.words.specs.Choice.{pick}
use Rattle.board_wires.specs.Wires.{wire_in}
use borrow.Author.Tests.{lt-ltb, le-ltb}
use Rattle.board_wires.proofs.wire_in.Goals as goal

pub returns-then-i-lt40 : goal.returns-then-i-lt40
unfolding wire_in pick
returns-then-i-lt40 c = rw (lt-ltb _ _ c.if-c-lt8.true, lt-ltb _ _ c.if-i-lt40.true) c.wire_of.ensures

pub returns-else-i-lt40 : goal.returns-else-i-lt40
unfolding wire_in pick
returns-else-i-lt40 c = rw (lt-ltb _ _ c.if-c-lt8.true, le-ltb _ _ c.if-i-lt40.false)

pub returns-else-c-lt8 : goal.returns-else-c-lt8
unfolding wire_in pick
returns-else-c-lt8 c = rw (le-ltb _ _ c.if-c-lt8.false)
