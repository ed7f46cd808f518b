-- That `size_at` of src/lib.rt keeps its contract.
use Rattle.numbers.proofs.NumberLaws.{closes_at}
use Prim.Native.Nat.{ℕ, ◌<◌, ◌≤◌}
use mathlib.Core.Bool.{false}
use mathlib.Core.Path.{◌≡◌}
use Rattle.numbers.proofs.size_at.Given as goal

abbrev pub invariant-loop-k : goal.invariant-loop-k
invariant-loop-k l = (l.k ≤ 5) × ((j : ℕ) → j < l.k → closes_at l.trace l.at j ≡ false)
