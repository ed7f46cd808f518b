-- That `core_step` of src/lib.rt keeps its contract.
use mathlib.Core.Path.{ap}
use Rattle.machine.specs.Steps.{after_core}
use Rattle.machine.proofs.core_step.Goals as goal

pub returns : goal.returns
returns c = ap (after_core c.args.m) c.step_sound-a.ensures
