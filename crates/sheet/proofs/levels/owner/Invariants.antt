-- That `owner` of src/levels.rt keeps its contract.
use Prim.Native.Nat.{◌<◌, ◌≤◌, ℕ}
use Rattle.sheet.specs.Levels.{owns}
use mathlib.Core.Bool.{false}
use mathlib.Core.Path.{◌≡◌}
use Rattle.sheet.proofs.levels.owner.Given as goal

abbrev pub invariant-loop-i : goal.invariant-loop-i
invariant-loop-i l = (l.i ≤ 32) × ((j : ℕ) → j < l.i → owns l.t l.l l.n j ≡ false)
