-- That `sum_levels` of src/lib.rt keeps its contract.
use Prim.Native.Nat.{◌≤◌}
use mathlib.Core.Path.{◌≡◌}
use Rattle.words.specs.Counting.{sum_below}
use Rattle.stack.specs.Bytes.{level_bytes}
use Rattle.stack.proofs.sum_levels.Given as goal

abbrev pub invariant-loop-l : goal.invariant-loop-l
invariant-loop-l l = (l.l ≤ 8) × (l.sum ≡ sum_below l.l (level_bytes l.t))
