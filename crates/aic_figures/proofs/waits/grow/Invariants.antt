-- That `grow` of src/waits.rt keeps its contract.
use Prim.Native.Nat.{ℕ, ◌-◌, ◌≤◌, ◌<◌, ◌^◌}
use mathlib.Core.Path.{◌≡◌}
use mathlib.Core.Bool.{true}
use Rattle.words.specs.Counting.{lowest_below}
use Rattle.words.specs.Word.{bit, without}
use Rattle.aic_figures.specs.WaitsBook.{cell_in, Columns}
use Rattle.aic_figures.proofs.ColumnLaws.{Grown}
use Rattle.aic_figures.proofs.waits.grow.Given as goal

abbrev pub invariant-loop-left : goal.invariant-loop-left
invariant-loop-left l =
    (l.left < 2 ^ 32) × ((k : ℕ) → k < 32 → bit l.left k ≡ true → bit l.w k ≡ true)
    × (Columns l.initial.book → ((i : ℕ) → i < 32 → cell_in l.initial.book l.j i ≤ 4294967295) → Grown l.j (without l.w l.left) l.initial.book l.book)

abbrev pub decreases-loop-left : goal.decreases-loop-left
decreases-loop-left l = 32 - lowest_below 32 (bit l.left)
