-- That `first_of` of src/lib.rt keeps its contract.
use Rattle.words.proofs.ChoiceLaws.{pick_true, pick-false}
use native.Mathlib.Omega.{arith}
use Rattle.coreinterrupt_room.specs.Room.{first_of}
use Rattle.coreinterrupt_room.proofs.first_of.Goals as goal

pub returns-then-fast : goal.returns-then-fast
unfolding first_of
returns-then-fast c = (pick_true _ c.if-fast.true, omega arith)

pub returns-else-fast : goal.returns-else-fast
unfolding first_of
returns-else-fast c = (pick-false _ c.if-fast.false, omega arith)
