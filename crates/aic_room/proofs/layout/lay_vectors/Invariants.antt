-- That `lay_vectors` of src/layout.rt keeps its contract.
use mathlib.Core.Path.{◌≡◌}
use Prim.Native.Nat.{◌≤◌}
use lib.ListN.{get_or}
use Rattle.rooms.specs.Parts.{stored}
use Rattle.aic_room.proofs.layout.lay_vectors.Given as goal

abbrev pub invariant-loop-k : goal.invariant-loop-k
invariant-loop-k l = (l.k ≤ 32) × (l.room ≡ stored 96 (λ j. get_or l.vector j 0) l.initial.room l.k)
