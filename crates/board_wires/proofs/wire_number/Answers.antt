-- That `wire_number` of src/lib.rt keeps its contract.
use Rattle.board_wires.specs.Wires.{wire_number}
use Rattle.board_wires.proofs.wire_number.Goals as goal

pub returns-in-Nothing : goal.returns-in-Nothing
unfolding wire_number
returns-in-Nothing c = rw c.in-Nothing.is

pub returns-in-Pin : goal.returns-in-Pin
unfolding wire_number
returns-in-Pin c = rw c.in-Pin.is c.number_from.ensures

pub returns-in-Irq : goal.returns-in-Irq
unfolding wire_number
returns-in-Irq c = rw c.in-Irq.is c.number_from-in-Irq.ensures

pub returns-in-Fiq : goal.returns-in-Fiq
unfolding wire_number
returns-in-Fiq c = rw c.in-Fiq.is c.number_from-in-Fiq.ensures
