-- That `step_sound` of src/lib.rt keeps its contract.
use Rattle.cic_registers.specs.Model.{step_as}
use mathlib.Core.Bool.{Bool}
use mathlib.Core.Path.{sym, ap, ◌∙◌}
use Rattle.cic.proofs.step_sound.Goals as goal

pub returns : goal.returns
returns c = c.step_in.ensures ∙ ap (λ (t : Bool). step_as t c.args.c c.args.s) (sym c.requires)
