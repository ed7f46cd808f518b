-- That `access_of` of src/map.rt keeps its contract.
use Rattle.aintc_registers.specs.Map.{row_access, access}
use mathlib.Core.Path.{ap, ◌∙◌}
use Rattle.aintc_registers.proofs.map.access_of.Goals as goal

pub returns : goal.returns
unfolding access
returns c = c.row_access.ensures ∙ ap row_access c.row_of.ensures
