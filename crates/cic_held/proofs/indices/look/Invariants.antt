-- That `look` of src/indices.rt keeps its contract.
use Rattle.cic_held.proofs.IndexLaws.{passes, words_in}
use Rattle.cic_held.specs.Order.{leads}
use Rattle.words.specs.Counting.{sum_below}
use mathlib.Core.Bool.{false}
use mathlib.Core.Path.{◌≡◌}
use Prim.Native.Nat.{ℕ, ◌≤◌, ◌<◌}
use Rattle.cic_held.proofs.indices.look.Given as goal

abbrev pub invariant-loop-k : goal.invariant-loop-k
invariant-loop-k l =
    (l.k ≤ l.c.channels) × ((l.words ≡ sum_below l.k (words_in l.c (leads l.c l.every l.h))) × ((i : ℕ) → i < l.k → passes l.c (leads l.c l.every l.h) i ≡ false))
