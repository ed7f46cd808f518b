-- That `held_word` of src/lib.rt keeps its contract.
use Prim.Native.Nat.{◌≤◌}
use mathlib.Core.Path.{◌≡◌}
use Rattle.words.specs.Word.{word_of}
use Rattle.aic_bounds.proofs.WordLaws.{held_among}
use Rattle.aic_bounds.proofs.held_word.Given as goal

abbrev pub invariant-loop-d : goal.invariant-loop-d
invariant-loop-d l = (l.d ≤ l.s.depth) × (l.w ≡ word_of 32 (held_among l.s l.d))
