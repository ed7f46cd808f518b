-- That `look_other` of src/looked.rt keeps its contract.
use mathlib.Core.Path.{ap, ◌∙◌}
use Prim.Native.Nat.{ℕ}
use lib.Dec.{eqb}
use Rattle.steps.specs.Refusals.{carried_out}
use Rattle.cic_held.specs.declared.Answer.{Answer}
use Rattle.cic_prioritised.specs.Looking.{looked, looked_from}
use Rattle.cic_prioritised.proofs.LookLaws.{none-either}
use Rattle.cic_prioritised.proofs.looked.look_other.Goals as goal

pub returns : goal.returns
returns c =
    let a = c.step_sound-a.result in
    c.answer.ensures ∙ ap (λ (w : ℕ). looked a.refusal a.value w) (none-either (eqb a.refusal carried_out))
    ∙ ap (λ (x : Answer). looked_from x 0) c.step_sound-a.ensures
