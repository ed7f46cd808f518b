-- That `step` of src/lib.rt keeps its contract.
use Rattle.cic_registers.specs.Model.{step_as}
use Rattle.cic_registers.proofs.StepLaws.{step-unsound}
use mathlib.Core.Bool.{Bool}
use mathlib.Core.Path.{sym, ap, ◌∙◌}
use Rattle.cic.proofs.step.Goals as goal

pub returns-then-is_sound : goal.returns-then-is_sound
returns-then-is_sound c = c.step_in.ensures ∙ ap (λ (t : Bool). step_as t c.args.c c.args.s) (sym c.if-is_sound.true ∙ c.is_sound.ensures)

pub returns : goal.returns
returns c =
    c.refusal_of.ensures ∙ sym (step-unsound c.args.c c.args.s)
    ∙ ap (λ (t : Bool). step_as t c.args.c c.args.s) (sym c.if-is_sound.false ∙ c.is_sound.ensures)
