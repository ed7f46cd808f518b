-- Arrays that a closure makes place by place, where the closure stays as it is.
use Prim.Native.Nat.{ℕ, zero, suc, ◌+◌, ◌≤◌, ◌<◌}
use mathlib.Core.Path.{◌≡◌, refl, sym, ◌∙◌, subst}
use mathlib.Core.List.{List}
use native.Mathlib.Omega.{arith}
use native.Mathlib.Decide.{ℕ_discrete}
use denote.Param.Members.{Mut}
use lib.ListN.{get_or}
use Rattle.std.specs.Array.{IsFromFnResultFrom, IsFromFnResult, index_steps}
use Rattle.std.specs.Fn.{Called}
use Rattle.std.specs.Iterator.{CallableAtEachTurn}
use Rattle.std.proofs.lemmas.Fn.{serves_by}

-- what `from_fn` answers: each call is at a place, and gives what stands there
module _ {F B : Type 0} (g : Mut F (ℕ × Unit {0}) B) (f : F) (h : ℕ → B) (e : B) (gives : (i : ℕ) (y : B) (q : F) → Called g f (i, tt) y q → (q ≡ f) × (y ≡ h i)) where
  made_from : (ys : List B) (i n : ℕ) (p : F) → p ≡ f → IsFromFnResultFrom g p ys i n → (k : ℕ) → i ≤ k → k < i + n → get_or ys k e ≡ h k
  made_from ys i zero p s r k l m = absurd (omega arith)
  made_from ys i (suc n) p s r k l m =
      let now = gives i r.1 r.0 (subst (λ (x : F). Called g x (i, tt) r.1 r.0) s r.3) in
      go (ℕ_discrete i k) (r.2.1 e ∙ now.1) (λ j. made_from ys (i + 1) n r.0 now.0 r.4 k j (omega arith))
    where
      go : Dec (i ≡ k) → get_or ys i e ≡ h i → (i + 1 ≤ k → get_or ys k e ≡ h k) → get_or ys k e ≡ h k
      go (yes d) here there = subst (λ (j : ℕ). get_or ys j e ≡ h j) d here
      go (no d) here there = there (omega (arith, d))

  pub made_at : (ys : List B) (n : ℕ) → IsFromFnResult g f ys n → (k : ℕ) → k < n → get_or ys k e ≡ h k
  made_at ys n r k l = made_from ys 0 n f refl r.each k (omega arith) (omega arith)

-- what `from_fn` asks: that the closure may be called at each place
pub callable_below : {P : Type 0} (R : P → ℕ → P → Type 0) (Q : P → ℕ → Type 0) (n : ℕ) (p : P) → ((x : ℕ) (q : P) → R p x q → q ≡ p)
    → ((x : ℕ) → x < n → Q p x) → CallableAtEachTurn (index_steps n) R Q 0 p
callable_below {P} R Q n p keeps may =
    serves_by R (λ xs q. q ≡ p) (λ xs q x v s r. keeps x v (subst (λ (y : P). R y x v) s r)) (index_steps n) Q 0 p refl
    (λ xs t q x u y l s. subst (λ (z : P). Q z x) (sym s) (may x (omega (arith, l.0, l.1))))
