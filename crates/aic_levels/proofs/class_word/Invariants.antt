-- That `class_word` of src/lib.rt keeps its contract.
use mathlib.Core.Path.{◌≡◌}
use Prim.Native.Nat.{◌≤◌}
use lib.Dec.{eqb}
use Rattle.words.specs.Word.{word_of}
use Rattle.aic_sources.specs.Search.{rank}
use Rattle.aic_levels.proofs.class_word.Given as goal

abbrev pub invariant-loop-k : goal.invariant-loop-k
invariant-loop-k l = (l.k ≤ 32) × (l.w ≡ word_of l.k (λ i. eqb (rank l.mode i) l.p))
