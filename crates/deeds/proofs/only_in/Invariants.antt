-- That `only_in` of src/lib.rt keeps its contract.
use Rattle.words.specs.Word.{without}
use lib.ListN.{get_or, length}
use mathlib.Core.Path.{◌≡◌}
use Prim.Native.Nat.{ℕ, ◌≤◌, ◌<◌}
use Rattle.deeds.proofs.only_in.Given as goal

abbrev pub invariant-loop-k : goal.invariant-loop-k
invariant-loop-k l = (l.k ≤ 8) × ((length l.out ≡ 8) × ((i : ℕ) → i < l.k → get_or l.out i 0 ≡ without (get_or l.a i 0) (get_or l.b i 0)))
