-- That `seek` of src/lib.rt keeps its contract.
use Prim.Native.Nat.{ℕ, ◌≤◌, ◌<◌}
use mathlib.Core.Bool.{false}
use mathlib.Core.Path.{◌≡◌}
use lib.ListN.{get_or}
use Rattle.tables.proofs.SeekLaws.{turned}
use Rattle.tables.proofs.seek.Given as goal

abbrev pub invariant-loop-i : goal.invariant-loop-i
invariant-loop-i l = (j : ℕ) → l.at ≤ j → j < l.i → turned l.wanted (get_or l.text j 0) ≡ false
