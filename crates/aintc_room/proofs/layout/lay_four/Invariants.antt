-- That `lay_four` of src/layout.rt keeps its contract.
use mathlib.Core.Path.{◌≡◌}
use Prim.Native.Nat.{◌≤◌}
use lib.ListN.{get_or}
use Rattle.rooms.specs.Parts.{stored}
use Rattle.aintc_room.proofs.layout.lay_four.Given as goal

abbrev pub invariant-loop-k : goal.invariant-loop-k
invariant-loop-k l = (l.k ≤ 4) × (l.room ≡ stored l.at (λ j. get_or l.words j 0) l.initial.room l.k)
