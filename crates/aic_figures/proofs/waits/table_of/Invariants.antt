-- That `table_of` of src/waits.rt keeps its contract.
use Prim.Native.Nat.{ℕ, ◌≤◌, ◌<◌}
use mathlib.Core.Path.{◌≡◌}
use mathlib.Core.List.{[]}
use lib.ListN.{length, get_or}
use Rattle.aic_bounds.specs.declared.figures.Figures.{Figures}
use Rattle.aic_figures.specs.WaitsBook.{numbers_of, Kept}
use Rattle.aic_figures.proofs.waits.table_of.Given as goal

abbrev pub invariant-loop-k : goal.invariant-loop-k
invariant-loop-k l = (l.k ≤ 32) × (length l.out ≡ 32) × ((f : ℕ → Figures) → Kept f l.book → (i : ℕ) → i < l.k → get_or l.out i [] ≡ numbers_of (f i))
