-- That `all_levels` of src/levels.rt keeps its contract.
use Prim.Native.Nat.{◌*◌, ◌≤◌}
use Rattle.stack.specs.Bytes.{level_bytes}
use Rattle.words.specs.Counting.{sum_below}
use mathlib.Core.Path.{◌≡◌}
use Rattle.sheet.proofs.levels.all_levels.Given as goal

abbrev pub invariant-loop-l : goal.invariant-loop-l
invariant-loop-l l = (l.l ≤ 8) × (l.sum ≡ sum_below l.l (level_bytes l.t)) × (l.sum ≤ l.l * 4294967296)
