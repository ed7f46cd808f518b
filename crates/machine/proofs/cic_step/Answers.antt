-- That `cic_step` of src/lib.rt keeps its contract.
use mathlib.Core.Path.{ap}
use Rattle.machine.specs.Steps.{after_cic}
use Rattle.machine.proofs.cic_step.Goals as goal

pub returns : goal.returns
returns c = ap (after_cic c.args.m) c.step_sound-a.ensures
