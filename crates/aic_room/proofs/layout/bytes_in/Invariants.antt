-- That `bytes_in` of src/layout.rt keeps its contract.
use mathlib.Core.Path.{◌≡◌}
use Prim.Native.Nat.{ℕ, ◌+◌, ◌%◌, ◌≤◌, ◌<◌}
use lib.ListN.{length, get_or}
use Rattle.aic_room.proofs.layout.bytes_in.Given as goal

abbrev pub invariant-loop-k : goal.invariant-loop-k
invariant-loop-k g l = (l.k ≤ g.row.N) × (length l.out ≡ g.row.N) × ((j : ℕ) → j < l.k → get_or l.out j 0 ≡ get_or l.room (l.at + j) 0 % 256)
