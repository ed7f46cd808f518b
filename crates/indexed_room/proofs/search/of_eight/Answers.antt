-- That `of_eight` of src/search.rt keeps its contract.
use mathlib.Core.Path.{refl}
use native.Mathlib.Omega.{arith}
use Rattle.indexed_room.proofs.ByteLaws.{marks-above}
use Rattle.indexed_room.proofs.search.of_eight.Goals as goal

pub returns : goal.returns
returns c =
    let l = c.of_four-low.ensures in
    let h = c.of_four-high.ensures in
    (omega (arith, l.0, h.0), marks-above 4 1 refl l.0 l.1 h.1)
