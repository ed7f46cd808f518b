-- That `tallest` of src/levels.rt keeps its contract.
use Prim.Native.Nat.{◌≤◌}
use Rattle.sheet.specs.Levels.{tallest}
use mathlib.Core.Path.{◌≡◌}
use Rattle.sheet.proofs.levels.tallest.Given as goal

abbrev pub invariant-loop-l : goal.invariant-loop-l
invariant-loop-l l = (l.l ≤ 8) × (l.most ≡ tallest l.t l.l)
