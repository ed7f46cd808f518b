-- That `move_rows` of src/waits.rt keeps its contract.
use Prim.Native.Nat.{ℕ, ◌-◌, ◌^◌, ◌<◌}
use mathlib.Core.Path.{◌≡◌}
use mathlib.Core.Bool.{true}
use Rattle.words.specs.Counting.{lowest_below}
use Rattle.words.specs.Word.{bit, without}
use Rattle.aic_record.specs.declared.Aic.{Aic}
use Rattle.aic_record.specs.Sound.{sound}
use Rattle.aic_room.specs.Room.{Laid}
use Rattle.aic_figures.specs.WaitsBook.{row_after, row_at, Columns, Rows}
use Rattle.aic_figures.proofs.waits.move_rows.Given as goal

abbrev pub invariant-loop-left : goal.invariant-loop-left
invariant-loop-left l =
    (l.left < 2 ^ 32) × ((j : ℕ) → j < 32 → bit l.left j ≡ true → bit l.some j ≡ true)
    × ((t : Aic) → sound t ≡ true → Laid t l.room → Columns l.initial.book
    → Rows (λ i. row_after i (bit l.was i) (bit l.is i) l.n l.m t (row_at l.initial.book i)) (without l.some l.left) l.initial.book l.book)

abbrev pub decreases-loop-left : goal.decreases-loop-left
decreases-loop-left l = 32 - lowest_below 32 (bit l.left)
