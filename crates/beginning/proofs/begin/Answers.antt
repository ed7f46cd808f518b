-- That `begin` of src/lib.rt keeps its contract.
use mathlib.Core.Path.{sym, ap, ◌∙◌}
use Rattle.beginning.specs.Begin.{begun_by, by_setup}
use Rattle.beginning.proofs.begin.Goals as goal

pub returns-in-Ok : goal.returns-in-Ok
unfolding by_setup
returns-in-Ok c = rw c.start-m.ensures (ap begun_by (sym c.in-Ok.is) ∙ c.set_up.ensures)
