-- That `chosen_in` of src/layout.rt keeps its contract.
use mathlib.Core.Path.{refl}
use Rattle.aintc_room.proofs.layout.chosen_in.Goals as goal

pub returns : goal.returns
returns c = rw (c.byte-number.ensures, c.byte-priority.ensures) refl
