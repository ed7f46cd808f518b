-- That `move_steady` of src/waits.rt keeps its contract.
use Prim.Native.Nat.{ℕ}
use mathlib.Core.Path.{sym, ap, subst, ◌∙◌}
use Rattle.words.specs.Word.{bit}
use Rattle.aic_figures.specs.WaitsBook.{row_after, row_at, Rows}
use Rattle.aic_figures.proofs.WaitsKeptLaws.{between, stands-between, between_on, rows-steady}
use Rattle.aic_figures.proofs.waits.move_steady.Goals as goal

pub returns : goal.returns
returns c =
    let a = c.args in
    let r₁ = c.move_rows in
    let g = c.grow_all in
    let r₃ = c.move_rows-2 in
    let n = a.n in
    let m = a.m in
    let was = a.was in
    let is = a.is in
    let old = a.book.now in
    let b₁ = r₁.new.book in
    let b₂ = g.new.book in
    λ f t ok h k ew same steady.
    let d₁ = subst (λ (w : ℕ). Rows (λ i. row_after i (bit was i) (bit is i) n m t (row_at old i)) w old b₁) c.drop_bits.ensures
    (r₁.ensures t ok h k.size) in
    let e = g.ensures (between f t n m was is old k ew) (stands-between f t n m was is old k ew b₁ d₁)
    (λ i l p. between_on f t n m was is old k ew b₁ d₁ i l (sym (ap (λ (w : ℕ). bit w i) c.meet.ensures) ∙ p)) in
    let d₃ = subst (λ (w : ℕ). Rows (λ i. row_after i (bit was i) (bit is i) n m t (row_at b₂ i)) w b₂ r₃.new.book) c.drop_bits-2.ensures (r₃.ensures t ok h e.0.size) in
    rows-steady f t n m was is old k ew b₁ d₁ same steady b₂ e.0 e.1 r₃.new.book d₃
