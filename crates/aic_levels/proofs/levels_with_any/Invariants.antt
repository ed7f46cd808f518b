-- That `levels_with_any` of src/lib.rt keeps its contract.
use mathlib.Core.Path.{◌≡◌}
use mathlib.Core.Bool.{not}
use Prim.Native.Nat.{◌≤◌}
use lib.Dec.{eqb}
use lib.ListN.{get_or}
use Rattle.words.specs.Word.{word_of}
use Rattle.aic_levels.proofs.levels_with_any.Given as goal

abbrev pub invariant-loop-level : goal.invariant-loop-level
invariant-loop-level l = (l.level ≤ 8) × (l.any ≡ word_of l.level (λ i. not (eqb (get_or l.levels i 0) 0)))
