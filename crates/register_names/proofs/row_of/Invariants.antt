-- That `row_of` of src/lib.rt keeps its contract.
use Prim.Native.Nat.{◌-◌, ◌/◌, ◌≤◌}
use mathlib.Core.Path.{◌≡◌}
use lib.ListN.{length}
use Rattle.register_names.specs.Table.{row_from}
use Rattle.register_names.proofs.row_of.Given as goal

abbrev pub invariant-loop-k : goal.invariant-loop-k
invariant-loop-k l = (row_from l.table l.n l.o l.k (length l.table / 64 - l.k) ≡ row_from l.table l.n l.o 0 (length l.table / 64)) × (l.k ≤ length l.table / 64)
