-- That `move_on` of src/waits.rt keeps its contract.
use Prim.Native.Nat.{ℕ}
use mathlib.Core.Path.{refl, subst}
use lib.ListN.{get_or}
use Rattle.aic_room.proofs.CellLaws.{enabled-is}
use Rattle.aic_figures.specs.WaitsBook.{word_in, Moved}
use Rattle.aic_figures.proofs.WaitsKeptLaws.{moved-from}
use Rattle.aic_figures.proofs.waits.move_on.Goals as goal

pub returns : goal.returns
returns c =
    let v = c.move_all in
    let w = c.waits_after-is in
    let s = c.started_from-by in
    let a = c.args in
    let book = a.book.now in
    let new = c.put_words.new.book in
    λ f t ok h k.
    let r = v.ensures f t ok h k refl in
    subst (λ (b : ℕ). Moved b a.asks a.n a.m t book new) (s.ensures t ok h)
    (moved-from s.result a.asks a.n a.m t (word_in book 1) w.result (get_or a.room.now 2 0) book v.new.book new refl w.ensures.0 (enabled-is h) r (c.put_words.ensures r.size))
