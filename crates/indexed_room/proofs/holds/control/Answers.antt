-- That `control` of src/holds.rt keeps its contract.
use Rattle.indexed_room.proofs.HoldLaws.{mode-is, control_stays, control_on, control-off}
use Rattle.indexed_room.proofs.holds.control.Goals as goal

pub returns-then-room-eq1 : goal.returns-then-room-eq1
returns-then-room-eq1 c = λ p h. control_stays p _ c.has.ensures _ c.if-has.true (mode-is p h) c.if-room-eq1.true h

pub returns-then-has : goal.returns-then-has
returns-then-has c =
    λ p h. control_on p _ c.has.ensures _ c.if-has.true (mode-is p h) c.if-room-eq1.false (c.clear.ensures p h)

pub returns : goal.returns
returns c = λ p h. control-off p _ c.has.ensures c.if-has.false (c.clear-2.ensures p h)
