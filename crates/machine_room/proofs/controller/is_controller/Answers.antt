-- That `is_controller` of src/controller.rt keeps its contract.
use mathlib.Core.Bool.{true}
use lib.ListN.{get_or}
use mathlib.Core.Path.{sym, subst}
use Rattle.machine.specs.declared.record.Machine.{Machine}
use Rattle.machine_room.specs.Room.{Beside}
use Rattle.machine_room.specs.Controller.{Stands}
use Rattle.machine_room.proofs.ControllerLaws.{with_kind, alone}
use Rattle.machine_room.proofs.controller.is_controller.Goals as goal

pub returns : goal.returns
returns c =
    let w = c.args.room.now in
    let l = c.is_laid.ensures in (
      λ e. (_, l.0 e),
      λ e n s.
          let a = alone w n s in
          let b = subst (λ (f : Machine). Beside (with_kind f (get_or w 0 0)) a.0) (sym c.empty.ensures) a.2 in
          l.1 e (subst (λ (m : Machine). Stands w m) (sym (c.record_of.ensures true a.0 a.1.0 a.1.1 b)) a.1),
    )
