-- That `lines` of src/names.rt keeps its contract.
use Prim.Native.Nat.{◌≤◌, ◌-◌, ◌+◌}
use lib.ListN.{length}
use Rattle.report.specs.Lines.{feeds_before}
use Rattle.report.specs.Put.{Put}
use Rattle.report.proofs.names.lines.Given as goal

abbrev pub invariant-loop-sum : goal.invariant-loop-sum
invariant-loop-sum g l = (l.at ≤ length l.s) × Put l.initial.sum.totals (feeds_before l.s l.at) l.sum.totals

abbrev pub decreases-loop-sum : goal.decreases-loop-sum
decreases-loop-sum g l = (length l.s + 1) - l.at
