-- That `sources_where` of src/waits.rt keeps its contract.
use Prim.Native.Nat.{ℕ, ◌≤◌, ◌<◌}
use mathlib.Core.Path.{◌≡◌}
use mathlib.Core.Bool.{Bool}
use Rattle.words.specs.Word.{word_of}
use Rattle.totals.proofs.waits.sources_where.Given as goal

abbrev pub invariant-loop-i : goal.invariant-loop-i
invariant-loop-i g l = (l.i ≤ 32) × ((p : ℕ → Bool) → ((i : ℕ) (r : Bool) → i < 32 → goal.F-post g l.fn.test i r → r ≡ p i) → l.w ≡ word_of l.i p)
