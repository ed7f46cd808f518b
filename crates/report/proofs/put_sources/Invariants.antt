-- That `put_sources` of src/lib.rt keeps its contract.
use Prim.Native.Nat.{◌≤◌}
use mathlib.Core.Path.{◌≡◌}
use Rattle.text.specs.Text.{write}
use Rattle.report.specs.Printed.{source_lines}
use Rattle.report.proofs.put_sources.Given as goal

abbrev pub invariant-loop-i : goal.invariant-loop-i
invariant-loop-i l = (l.i ≤ 32) × ((l.out, l.at) ≡ write (l.initial.out, 0) (source_lines l.i l.t))
