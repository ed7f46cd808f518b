-- That `move_on` of src/lib.rt keeps its contract.
use Prim.Native.Nat.{ℕ}
use mathlib.Core.Path.{subst, ◌∙◌}
use lib.ListN.{set}
use Rattle.aic_figures.specs.Book.{Moved}
use Rattle.aic_figures.proofs.MovedLaws.{count-size, moved-from}
use Rattle.aic_figures.proofs.move_on.Goals as goal

pub returns : goal.returns
returns c =
    let d₂ = c.drop_bits-2 in
    let k = c.count_start in
    let s = c.settle_all in
    let d₁ = c.drop_bits in
    let p = c.deepen in
    let w = c.waits_after-waits in
    let f = c.started_from-by in
    let a = c.args in
    λ t ok h n.
    let p₁ = p.ensures t ok h n in
    let p₂ = s.ensures (p₁.size ∙ n) in
    let l = p₂.size ∙ p₁.size ∙ n in
    subst (λ (b : ℕ). Moved b a.asks t a.book.now (set (set c.begin_all.new.book 0 a.asks) 1 w.result)) (f.ensures t ok h)
    (moved-from t f.result a.asks w.result d₁.result d₂.result a.book.now p.new.book s.new.book k.new.book c.begin_all.new.book n w.ensures.0 p₁ d₁.ensures p₂ k.ensures d₂.ensures
    (c.begin_all.ensures (count-size f.result s.new.book k.new.book l k.ensures ∙ l)))
