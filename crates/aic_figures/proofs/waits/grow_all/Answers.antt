-- That `grow_all` of src/waits.rt keeps its contract.
use mathlib.Core.Path.{refl}
use Rattle.aic_figures.proofs.WaitsKeptLaws.{stands-still, few-edges, few-commands, few-turns, few_closed, stands-grown}
use Rattle.aic_figures.proofs.waits.grow_all.Goals as goal

pub returns-then-some-eq0 : goal.returns-then-some-eq0
returns-then-some-eq0 c = let a = c.args in λ f d n. (stands-still f a.m a.some a.book.now c.if-some-eq0.true d n, refl)

pub returns : goal.returns
returns c =
    let a = c.args in
    let g₁ = c.grow in
    let g₂ = c.grow-2 in
    let g₃ = c.grow-3 in
    let g₄ = c.grow-4 in
    let m = a.m in
    let b₀ = a.book.now in
    let b₁ = g₁.new.book in
    let b₂ = g₂.new.book in
    let b₃ = g₃.new.book in
    λ f d n.
    let e₁ = g₁.ensures d.size (few-edges f m b₀ d) in
    let e₂ = g₂.ensures e₁.size (few-commands f m b₀ d b₁ e₁) in
    let e₃ = g₃.ensures e₂.size (few-turns f m b₀ d b₁ e₁ b₂ e₂) in
    stands-grown f m b₀ d b₁ e₁ b₂ e₂ b₃ e₃ g₄.new.book (g₄.ensures e₃.size (few_closed f m b₀ d b₁ e₁ b₂ e₂ b₃ e₃))
