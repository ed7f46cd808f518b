-- That `wire_of` of src/lib.rt keeps its contract.
use Rattle.words.specs.Choice.{pick}
use Rattle.board_wires.specs.Wires.{wire_of}
use borrow.Author.Tests.{eq-eqb, ne_eqb, lt-ltb, le-ltb}
use Rattle.board_wires.proofs.wire_of.Goals as goal

pub returns-then-n-eq0 : goal.returns-then-n-eq0
unfolding wire_of pick
returns-then-n-eq0 c = simp (eq-eqb _ _ c.if-n-eq0.true)

pub returns-then-n-lt321 : goal.returns-then-n-lt321
unfolding wire_of pick
returns-then-n-lt321 c = simp (ne_eqb _ _ c.if-n-eq0.false, lt-ltb _ _ c.if-n-lt321.true)

pub returns-then-n-lt329 : goal.returns-then-n-lt329
unfolding wire_of pick
returns-then-n-lt329 c = simp (ne_eqb _ _ c.if-n-eq0.false, le-ltb _ _ c.if-n-lt321.false, lt-ltb _ _ c.if-n-lt329.true)

pub returns-then-n-lt337 : goal.returns-then-n-lt337
unfolding wire_of pick
returns-then-n-lt337 c = simp (ne_eqb _ _ c.if-n-eq0.false, le-ltb _ _ c.if-n-lt321.false, le-ltb _ _ c.if-n-lt329.false, lt-ltb _ _ c.if-n-lt337.true)

pub returns : goal.returns
unfolding wire_of pick
returns c = simp (ne_eqb _ _ c.if-n-eq0.false, le-ltb _ _ c.if-n-lt321.false, le-ltb _ _ c.if-n-lt329.false, le-ltb _ _ c.if-n-lt337.false)
