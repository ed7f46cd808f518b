-- That `run_of` of src/names.rt keeps its contract.
use Prim.Native.Nat.{ℕ, ◌≤◌, ◌<◌}
use mathlib.Core.Path.{◌≡◌}
use mathlib.Core.Bool.{false}
use Rattle.tables.proofs.NameLaws.{not_name}
use Rattle.tables.proofs.names.run_of.Given as goal

abbrev pub invariant-loop-k : goal.invariant-loop-k
invariant-loop-k l = (l.k ≤ 25) × ((j : ℕ) → j < l.k → not_name l.text l.at j ≡ false)
