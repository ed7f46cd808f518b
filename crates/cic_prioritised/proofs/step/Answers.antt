-- That `step` of src/lib.rt keeps its contract.
use mathlib.Core.Bool.{Bool}
use mathlib.Core.Path.{sym, ap, ◌∙◌}
use Rattle.cic_indexed.specs.Model.{step_as}
use Rattle.cic_indexed.proofs.StepLaws.{not_sound}
use Rattle.cic_prioritised.proofs.step.Goals as goal

pub step_sound-requires : goal.step_sound-requires
step_sound-requires c = sym c.is_sound.ensures ∙ c.if-is_sound.true

pub returns : goal.returns
returns c =
    let a = c.args in
    c.refuse.ensures ∙ not_sound a.p a.x ∙ ap (λ (t : Bool). step_as t a.p a.x) (sym c.if-is_sound.false ∙ c.is_sound.ensures)
