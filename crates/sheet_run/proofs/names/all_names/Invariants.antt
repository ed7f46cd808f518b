-- That `all_names` of src/names.rt keeps its contract.
use Prim.Native.Nat.{◌≤◌}
use mathlib.Core.Path.{◌≡◌}
use lib.ListN.{length}
use Rattle.std.specs.Option.{IfSome}
use Rattle.sheet_run.specs.Put.{Put}
use Rattle.sheet_run.proofs.names.all_names.Given as goal

abbrev pub invariant-loop : goal.invariant-loop
invariant-loop g l = IfSome l.s.begun (λ n. n ≤ length l.names) × (length l.names ≡ length l.initial.names) × Put l.table l.initial.s.sheet l.s.sheet
