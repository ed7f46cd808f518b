-- That `lay_routes` of src/layout.rt keeps its contract.
use mathlib.Core.Path.{◌≡◌}
use Prim.Native.Nat.{ℕ, ◌≤◌, ◌<◌}
use lib.ListN.{get_or}
use Rattle.rooms.specs.Parts.{stored}
use Rattle.aintc_room.proofs.layout.lay_routes.Given as goal

abbrev pub invariant-loop-k : goal.invariant-loop-k
invariant-loop-k l = (l.k ≤ 128) × (l.room ≡ stored 128 (λ j. get_or l.routes j 0) l.initial.room l.k) × ((j : ℕ) → j < l.k → get_or l.routes j 0 < 256)
