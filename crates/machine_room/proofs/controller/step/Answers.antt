-- That `step` of src/controller.rt keeps its contract.
use mathlib.Core.Path.{refl}
use mathlib.Core.Bool.{true}
use Rattle.machine_room.proofs.controller.step.Goals as goal

pub returns-then-is_controller : goal.returns-then-is_controller
returns-then-is_controller c =
    let i = c.is_controller.ensures.0 c.if-is_controller.true in
    record { standing = λ m s. c.step.ensures true m s.0 s.1; vacant = λ v. absurd (v i.0 i.1) }

pub returns : goal.returns
returns c =
    record { standing = λ m s. absurd (c.is_controller.ensures.1 c.if-is_controller.false m s); vacant = λ _. (refl, c.refuse.ensures) }
