-- That `four_in` of src/layout.rt keeps its contract.
use mathlib.Core.Path.{◌≡◌}
use Prim.Native.Nat.{ℕ, ◌+◌, ◌≤◌, ◌<◌}
use lib.ListN.{length, get_or}
use Rattle.aintc_room.proofs.layout.four_in.Given as goal

abbrev pub invariant-loop-k : goal.invariant-loop-k
invariant-loop-k l = (l.k ≤ 4) × (length l.out ≡ 4) × ((j : ℕ) → j < l.k → get_or l.out j 0 ≡ get_or l.room (l.at + j) 0)
