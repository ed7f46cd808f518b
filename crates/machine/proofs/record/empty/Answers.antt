-- That `empty` of src/record.rt keeps its contract.
use mathlib.Core.Path.{refl}
use Rattle.machine.proofs.MachineLaws.{blank_core, blank-cic}
use Rattle.machine.proofs.record.empty.Goals as goal

pub returns : goal.returns
returns c = rw (c.reset_to.ensures, c.start.ensures, c.start-2.ensures, c.blank.ensures, c.nothing_held.ensures) (rw (blank_core, blank-cic) refl)
