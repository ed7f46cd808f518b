-- That `write` of src/controller.rt keeps its contract.
use mathlib.Core.Path.{refl}
use native.Mathlib.Omega.{arith}
use Rattle.trace.proofs.TurnLaws.{step-write}
use Rattle.machine_room.proofs.ControllerLaws.{stepped_as}
use Rattle.machine_room.proofs.controller.write.Goals as goal

pub step-requires : goal.step-requires
step-requires c = (omega arith, omega arith)

pub returns : goal.returns
returns c = stepped_as (step-write 2 _ _ refl) c.step.ensures
