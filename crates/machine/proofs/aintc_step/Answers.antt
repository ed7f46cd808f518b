-- That `aintc_step` of src/lib.rt keeps its contract.
use mathlib.Core.Path.{ap}
use Rattle.machine.specs.Steps.{after_aintc}
use Rattle.machine.proofs.aintc_step.Goals as goal

pub returns : goal.returns
returns c = ap (after_aintc c.args.m) c.step_sound-a.ensures
