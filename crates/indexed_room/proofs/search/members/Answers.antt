-- That `members` of src/search.rt keeps its contract.
use mathlib.Core.Path.{refl}
use Rattle.indexed_room.proofs.ByteLaws.{marks-above}
use Rattle.indexed_room.proofs.search.members.Goals as goal

pub returns : goal.returns
returns c = let l = c.of_sixteen-low.ensures in marks-above 16 4 refl l.0 l.1 c.of_sixteen-high.ensures.1
