-- That `start` of src/controller.rt keeps its contract.
use mathlib.Core.Path.{refl, sym, ap, ◌∙◌, subst}
use mathlib.Core.Bool.{true}
use Rattle.machine.specs.declared.record.Machine.{Machine}
use Rattle.machine.specs.Machine.{sound}
use Rattle.machine_room.specs.Room.{Laid}
use Rattle.machine_room.proofs.ControllerLaws.{start-taken}
use Rattle.machine_room.proofs.controller.start.Goals as goal

pub returns-then-refusal-eq-CARRIED_OUT : goal.returns-then-refusal-eq-CARRIED_OUT
returns-then-refusal-eq-CARRIED_OUT c =
    let a = c.args in
    let none = c.if-refusal-eq-CARRIED_OUT.true in
    let e = c.start_refusal-refusal.ensures in
    let ok = start-taken a.kind a.c (sym e ∙ none) in
    record {
      refusal = e;
      carried = λ _. (ok, subst (λ (m : Machine). Laid true m c.lay.result) c.start.ensures (c.lay.ensures (ap sound c.start.ensures ∙ ok)));
      refused = λ n. absurd (n none);
    }

pub returns-else-refusal-eq-CARRIED_OUT : goal.returns-else-refusal-eq-CARRIED_OUT
returns-else-refusal-eq-CARRIED_OUT c = record { refusal = c.start_refusal-refusal.ensures; carried = λ e. absurd (c.if-refusal-eq-CARRIED_OUT.false e); refused = λ _. refl }
