-- That `carried` of src/pair.rt keeps its contract.
use Rattle.board_wires.proofs.WireLaws.{carries-nothing, carries_pin, carries-irq, carries-fiq}
use Rattle.board_wires.proofs.pair.carried.Goals as goal

pub returns-in-Nothing : goal.returns-in-Nothing
returns-in-Nothing c = carries-nothing _ _ _ _ c.in-Nothing.is

pub returns-in-Pin : goal.returns-in-Pin
returns-in-Pin c = carries_pin _ _ _ _ _ _ c.in-Pin.is c.pin_in.ensures

pub returns-in-Irq : goal.returns-in-Irq
returns-in-Irq c = carries-irq _ _ _ _ _ _ c.in-Irq.is c.told_at.ensures

pub returns-in-Fiq : goal.returns-in-Fiq
returns-in-Fiq c = carries-fiq _ _ _ _ _ _ c.in-Fiq.is c.told_at-in-Fiq.ensures
