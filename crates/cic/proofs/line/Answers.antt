-- That `line` of src/lib.rt keeps its contract.
use mathlib.Core.Path.{refl, sym, ◌∙◌}
use Rattle.cic_record.specs.Sound.{sound}
use Rattle.cic_registers.proofs.StepLaws.{step_line}
use Rattle.cic.proofs.line.Goals as goal

pub returns : goal.returns
returns c = c.step.ensures ∙ sym (step_line (sound c.args.c) c.args.c _ _ refl)
