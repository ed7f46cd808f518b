-- That `leads` of src/chain.rt keeps its contract.
use Rattle.board_wires.specs.Chain.{leads_to}
use Rattle.board_wires.proofs.chain.leads.Goals as goal

pub returns-in-Nothing : goal.returns-in-Nothing
unfolding leads_to
returns-in-Nothing c = rw c.in-Nothing.is

pub returns-in-Pin : goal.returns-in-Pin
unfolding leads_to
returns-in-Pin c = rw c.in-Pin.is

pub returns-in-Irq : goal.returns-in-Irq
unfolding leads_to
returns-in-Irq c = rw c.in-Irq.is

pub returns-in-Fiq : goal.returns-in-Fiq
unfolding leads_to
returns-in-Fiq c = rw c.in-Fiq.is
