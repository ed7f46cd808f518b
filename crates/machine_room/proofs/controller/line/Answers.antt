-- That `line` of src/controller.rt keeps its contract.
use mathlib.Core.Path.{refl}
use native.Mathlib.Omega.{arith}
use Rattle.machine_room.proofs.RoomLaws.{line_step}
use Rattle.machine_room.proofs.ControllerLaws.{stepped_as}
use Rattle.machine_room.proofs.controller.line.Goals as goal

pub step-requires : goal.step-requires
step-requires c = (omega arith, omega arith)

pub returns : goal.returns
returns c = stepped_as (line_step 3 _ _ refl) c.step.ensures
