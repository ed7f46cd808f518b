-- That `words_clean` of src/lib.rt keeps its contract.
use mathlib.Core.Path.{◌≡◌}
use Prim.Native.Nat.{◌≤◌, ◌-◌, ◌*◌}
use lib.ListN.{length}
use Rattle.words.specs.Array.{clean_below}
use mathlib.Core.Path.{◌≡◌}
use Rattle.cic_record.proofs.words_clean.Given as goal

abbrev pub invariant-loop-w : goal.invariant-loop-w
invariant-loop-w l = (l.w-index ≤ length l.ws) × ((l.left ≡ l.n - 32 * l.w-index) × (l.ok ≡ clean_below l.w-index l.n l.ws))
