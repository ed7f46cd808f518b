-- That `all_names` of src/names.rt keeps its contract.
use Prim.Native.Nat.{ℕ, ◌≤◌}
use mathlib.Core.Path.{◌≡◌}
use lib.ListN.{length}
use Rattle.report.specs.Put.{Put}
use Rattle.report.proofs.names.all_names.Given as goal

abbrev pub invariant-loop : goal.invariant-loop
invariant-loop g l =
    (l.s.held ≤ length l.names) × (length l.names ≡ length l.initial.names) × ((n : ℕ) × Put l.initial.s.sum.totals n l.s.sum.totals)
