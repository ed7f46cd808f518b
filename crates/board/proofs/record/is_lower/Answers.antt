-- That `is_lower` of src/record.rt keeps its contract.
use Rattle.board.specs.Sound.{lower}
use mathlib.Core.Path.{sym, ap}
use Rattle.board.proofs.record.is_lower.Goals as goal

pub returns-in-Nothing : goal.returns-in-Nothing
unfolding lower
returns-in-Nothing c = sym (ap (lower c.args.c) c.in-Nothing.is)

pub returns-in-Pin : goal.returns-in-Pin
unfolding lower
returns-in-Pin c = sym (ap (lower c.args.c) c.in-Pin.is)

pub returns-in-Irq : goal.returns-in-Irq
unfolding lower
returns-in-Irq c = sym (ap (lower c.args.c) c.in-Irq.is)

pub returns-in-Fiq : goal.returns-in-Fiq
unfolding lower
returns-in-Fiq c = sym (ap (lower c.args.c) c.in-Fiq.is)
