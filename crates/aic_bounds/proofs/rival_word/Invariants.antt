-- That `rival_word` of src/lib.rt keeps its contract.
use mathlib.Core.Path.{◌≡◌}
use Prim.Native.Nat.{◌≤◌}
use Rattle.words.specs.Word.{word_of}
use Rattle.aic_runs.specs.Promises.{rival_of}
use Rattle.aic_bounds.proofs.rival_word.Given as goal

abbrev pub invariant-loop-i : goal.invariant-loop-i
invariant-loop-i l = (l.i ≤ 32) × (l.w ≡ word_of l.i (rival_of l.s l.k))
