-- That `aic_step` of src/lib.rt keeps its contract.
use mathlib.Core.Path.{ap}
use Rattle.machine.specs.Steps.{after_aic}
use Rattle.machine.proofs.aic_step.Goals as goal

pub returns : goal.returns
returns c = ap (after_aic c.args.m) c.step_sound-a.ensures
