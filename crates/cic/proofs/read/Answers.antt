-- That `read` of src/lib.rt keeps its contract.
use mathlib.Core.Path.{refl, sym, ◌∙◌}
use Rattle.cic_record.specs.Sound.{sound}
use Rattle.cic_registers.proofs.StepLaws.{step-read}
use Rattle.cic.proofs.read.Goals as goal

pub returns : goal.returns
returns c = c.step.ensures ∙ sym (step-read (sound c.args.c) c.args.c _ refl)
