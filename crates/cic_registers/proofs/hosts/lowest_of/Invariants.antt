-- That `lowest_of` of src/hosts.rt keeps its contract.
use lib.ListN.{get_or}
use mathlib.Core.Path.{◌≡◌}
use Prim.Native.Nat.{ℕ, ◌≤◌, ◌<◌}
use Rattle.cic_registers.proofs.hosts.lowest_of.Given as goal

abbrev pub invariant-loop-k : goal.invariant-loop-k
invariant-loop-k l = (l.k ≤ 8) × ((i : ℕ) → i < l.k → get_or l.w-items i 0 ≡ 0)
