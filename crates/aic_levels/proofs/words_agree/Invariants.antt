-- That `words_agree` of src/lib.rt keeps its contract.
use mathlib.Core.Path.{◌≡◌}
use mathlib.Core.Bool.{◌&&◌}
use Prim.Native.Nat.{◌≤◌}
use lib.Dec.{eqb}
use lib.ListN.{get_or}
use Rattle.words.specs.Counting.{all_below}
use Rattle.words.specs.Word.{bit, word_of}
use Rattle.aic_sources.specs.Search.{rank}
use Rattle.aic_levels.proofs.words_agree.Given as goal

abbrev pub invariant-loop-p : goal.invariant-loop-p
invariant-loop-p l =
    (l.p ≤ 8) × (l.same ≡ all_below l.p (λ q. eqb (get_or l.levels q 0) (word_of 32 (λ k. bit l.waits k && eqb (rank l.mode k) q))))
