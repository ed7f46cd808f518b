-- That `first_of` of src/search.rt keeps its contract.
use mathlib.Core.Path.{◌≡◌, subst}
use Prim.Native.Nat.{ℕ, suc, ◌-◌}
use native.Mathlib.Omega.{arith}
use Rattle.aintc_room.specs.First.{held, halves}
use Rattle.aintc_room.proofs.SearchLaws.{Least, least-all, turned-some, turned-none, first_least}
use Rattle.aintc_room.proofs.search.first_of.Goals as goal

pub loop-k-init : goal.loop-k-init
loop-k-init c = (omega arith, λ s h o. least-all s _ _ c.of-best.ensures o)

pub loop-k-preserved-then-is_some : goal.loop-k-preserved-then-is_some
loop-k-preserved-then-is_some c =
    let l = c.loop-k in
    let a = c.args in
    let u = c.loop-k-test.true in
    let p = held a.w0 a.w1 a.w2 a.w3 in
    let e : l.k ≡ suc (l.k - 1) = omega (arith, u) in (
      omega (arith, l.invariant.0),
      λ s h o. turned-some h (l.k - 1) (omega (arith, l.invariant.0, u)) l.best.low l.best.high _ _ _ _ c.of-ones.ensures c.without-rest.ensures
          p (subst (λ (n : ℕ). Least s p (halves l.best.low l.best.high) n) e (l.invariant.1 s h o)) c.if-is_some.ensures,
    )

pub loop-k-preserved : goal.loop-k-preserved
loop-k-preserved c =
    let l = c.loop-k in
    let a = c.args in
    let u = c.loop-k-test.true in
    let p = held a.w0 a.w1 a.w2 a.w3 in
    let e : l.k ≡ suc (l.k - 1) = omega (arith, u) in (
      omega (arith, l.invariant.0),
      λ s h o. turned-none h (l.k - 1) (omega (arith, l.invariant.0, u)) l.best.low l.best.high _ _ _ _ c.of-ones.ensures c.without-rest.ensures
          p (subst (λ (n : ℕ). Least s p (halves l.best.low l.best.high) n) e (l.invariant.1 s h o)) c.if-is_some.ensures,
    )

pub returns : goal.returns
returns c =
    let l = c.loop-k in
    let a = c.args in
    let p = held a.w0 a.w1 a.w2 a.w3 in
    let z : l.k ≡ 0 = omega (arith, c.loop-k-test.false) in
    λ s h o. let i = l.invariant.1 s h o in
    first_least s p (halves l.best.low l.best.high) _ (subst (λ (n : ℕ). Least s p (halves l.best.low l.best.high) n) z i) (c.highest.ensures i.some)
