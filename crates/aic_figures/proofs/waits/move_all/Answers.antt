-- That `move_all` of src/waits.rt keeps its contract.
use Prim.Native.Nat.{ℕ}
use mathlib.Core.Path.{◌≡◌, sym, subst, ◌∙◌}
use mathlib.Core.Bool.{true, not, ◌&&◌}
use lib.Dec.{eqb}
use lib.ListN.{get_or}
use borrow.Author.Tests.{eqb-true, not-true}
use Rattle.words.specs.Word.{bit}
use Rattle.words.proofs.TruthLaws.{and_left, and_right}
use Rattle.aic_room.proofs.CellLaws.{enabled-is}
use Rattle.aic_figures.specs.WaitsBook.{row_after, row_at, word_in, Rows}
use Rattle.aic_figures.proofs.waits.move_all.Goals as goal

pub returns-then-room-book : goal.returns-then-room-book
returns-then-room-book c =
    let a = c.args in
    let x = eqb (get_or a.room.now 2 0) (word_in a.book.now 2) in
    let y = not a.m.rewrote in
    let b : (x && y) ≡ true = c.if-room-book.true in
    λ f t ok h k w. c.move_steady.ensures f t ok h k w (sym (enabled-is h) ∙ eqb-true (get_or a.room.now 2 0) (word_in a.book.now 2) (and_left x y b)) (not-true a.m.rewrote (and_right x y b))

pub returns : goal.returns
returns c =
    let a = c.args in
    let old = a.book.now in
    λ f t ok h k w.
    subst (λ (v : ℕ). Rows (λ i. row_after i (bit a.was i) (bit a.is i) a.n a.m t (row_at old i)) v old c.move_rows.new.book) c.join.ensures
    (c.move_rows.ensures t ok h k.size)
