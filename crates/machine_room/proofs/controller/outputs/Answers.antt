-- That `outputs` of src/controller.rt keeps its contract.
use mathlib.Core.Path.{refl, ap}
use Rattle.steps.specs.Refusals.{carried_out}
use Rattle.machine.specs.declared.record.Columns.{Columns}
use Rattle.machine_room.specs.Controller.{shown_as}
use Rattle.machine_room.proofs.controller.outputs.Goals as goal

pub returns-then-is_controller : goal.returns-then-is_controller
returns-then-is_controller c =
    let i = c.is_controller.ensures.0 c.if-is_controller.true in
    record { standing = λ m s. ap (λ (k : Columns). shown_as carried_out k) (c.columns-c.ensures m s.0 s.1); vacant = λ v. absurd (v i.0 i.1) }

pub returns : goal.returns
returns c = record { standing = λ m s. absurd (c.is_controller.ensures.1 c.if-is_controller.false m s); vacant = λ _. refl }
