-- That `settle_all` of src/lib.rt keeps its contract.
use Prim.Native.Nat.{ℕ, ◌-◌, ◌^◌, ◌<◌}
use mathlib.Core.Path.{◌≡◌}
use mathlib.Core.Bool.{true}
use lib.ListN.{length}
use Rattle.words.specs.Counting.{lowest_below}
use Rattle.words.specs.Word.{bit}
use Rattle.aic_figures.specs.Book.{settled_at}
use Rattle.aic_figures.proofs.BookLaws.{Done}
use Rattle.aic_figures.proofs.settle_all.Given as goal

abbrev pub invariant-loop-left : goal.invariant-loop-left
invariant-loop-left l =
    (l.left < 2 ^ 32) × ((j : ℕ) → j < 32 → bit l.left j ≡ true → bit l.some j ≡ true) × (length l.initial.book ≡ 160 → Done 96 (settled_at l.initial.book) l.some l.left l.initial.book l.book)

abbrev pub decreases-loop-left : goal.decreases-loop-left
decreases-loop-left l = 32 - lowest_below 32 (bit l.left)
