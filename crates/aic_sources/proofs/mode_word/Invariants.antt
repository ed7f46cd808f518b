-- That `mode_word` of src/lib.rt keeps its contract.
use mathlib.Core.Path.{◌≡◌}
use Prim.Native.Nat.{◌≤◌}
use lib.ListN.{get_or}
use Rattle.words.specs.Word.{bit, word_of}
use Rattle.aic_sources.proofs.mode_word.Given as goal

abbrev pub invariant-loop-k : goal.invariant-loop-k
invariant-loop-k l = (l.k ≤ 32) × (l.w ≡ word_of l.k (λ i. bit (get_or l.mode i 0) l.j))
