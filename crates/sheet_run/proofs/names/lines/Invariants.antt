-- That `lines` of src/names.rt keeps its contract.
use Prim.Native.Nat.{◌≤◌, ◌-◌, ◌+◌}
use lib.ListN.{length}
use Rattle.sheet_run.specs.Put.{Put}
use Rattle.sheet_run.proofs.names.lines.Given as goal

abbrev pub invariant-loop-table : goal.invariant-loop-table
invariant-loop-table g l = (l.at ≤ length l.s) × Put l.table l.initial.sheet l.sheet

abbrev pub decreases-loop-table : goal.decreases-loop-table
decreases-loop-table g l = (length l.s + 1) - l.at
