-- An order of numbers by their ranks, and the one that is before all others that fit.
use Prim.Native.Nat.{ℕ, ◌<◌}
use mathlib.Core.Path.{◌≡◌, ◌∙◌}
use mathlib.Core.Bool.{Bool, true, false, not, ◌&&◌, ◌||◌}
use mathlib.Core.Logic.{◌≢◌, ◌⊎◌, inl, inr, ⊎_elim}
use native.Mathlib.Omega.{arith}
use native.Mathlib.Decide.{ℕ_discrete, dec_lt}
use lib.Dec.{eqb, ltb}
use borrow.Author.Tests.{eqb-true, eq-eqb, ltb-true, lt-ltb, not-true}
use Rattle.words.specs.Counting.{all_below}
use Rattle.words.proofs.CountingLaws.{all_at, at_all}
use Rattle.words.proofs.TruthLaws.{and_left, and_right, and_both, or-either, or_left, or_right, clash, not-holds, told}

-- ---- a comparison of two numbers, and of two others where those are the same

module _ (x y p q u v : ℕ) where
  pub lower-is : (ltb x y || (eqb p q && ltb u v)) ≡ true → (x < y) ⊎ ((p ≡ q) × (u < v))
  lower-is h =
      ⊎_elim (λ (e : ltb x y ≡ true). inl (ltb-true x y e))
      (λ (e : (eqb p q && ltb u v) ≡ true). inr (eqb-true p q (and_left _ (ltb u v) e), ltb-true u v (and_right (eqb p q) _ e)))
      (or-either (ltb x y) (eqb p q && ltb u v) h)

  pub is-lower : (x < y) ⊎ ((p ≡ q) × (u < v)) → (ltb x y || (eqb p q && ltb u v)) ≡ true
  is-lower (inl l) = or_left (eqb p q && ltb u v) (lt-ltb x y l)
  is-lower (inr (e, l)) = or_right (ltb x y) (and_both (eq-eqb p q e) (lt-ltb u v l))

-- x is below y, or the same and u below v
abbrev pub Lower : ℕ → ℕ → ℕ → ℕ → Type 0
Lower x y u v = (x < y) ⊎ ((x ≡ y) × (u < v))

pub lower_never : (x u : ℕ) → Lower x x u u → ⊥
lower_never x u (inl l) = omega arith
lower_never x u (inr (e, l)) = omega arith

pub lower_through : {x y z u v w : ℕ} → Lower x y u v → Lower y z v w → Lower x z u w
lower_through (inl l) (inl m) = inl (omega arith)
lower_through (inl l) (inr (f, m)) = inl (omega arith)
lower_through (inr (e, l)) (inl m) = inl (omega arith)
lower_through (inr (e, l)) (inr (f, m)) = inr (e ∙ f, omega arith)

-- the same where the second two are compared the other way round
pub lower_across : {x y z u v w : ℕ} → Lower x y v u → Lower y z w v → Lower x z w u
lower_across (inl l) (inl m) = inl (omega arith)
lower_across (inl l) (inr (f, m)) = inl (omega arith)
lower_across (inr (e, l)) (inl m) = inl (omega arith)
lower_across (inr (e, l)) (inr (f, m)) = inr (e ∙ f, omega arith)

pub lower-either : (x y u v : ℕ) → u ≢ v → Lower x y u v ⊎ Lower y x v u
lower-either x y u v d = go (dec_lt x y) (dec_lt y x) (dec_lt u v)
  where
    go : Dec (x < y) → Dec (y < x) → Dec (u < v) → Lower x y u v ⊎ Lower y x v u
    go (yes l) m n = inl (inl l)
    go (no l) (yes m) n = inr (inl m)
    go (no l) (no m) (yes n) = inl (inr (omega arith, n))
    go (no l) (no m) (no n) = inr (inr (omega arith, omega arith))

-- ---- an order by ranks: a higher one is before a lower one, and of one rank the lower number

pub record Ranks (rank : ℕ → ℕ) (r : ℕ → ℕ → Bool) : Type 0 where
  pub is : (a b : ℕ) → r a b ≡ true → Lower (rank b) (rank a) a b
  pub so : (a b : ℕ) → Lower (rank b) (rank a) a b → r a b ≡ true

module _ {rank : ℕ → ℕ} {r : ℕ → ℕ → Bool} (o : Ranks rank r) where
  -- none is before itself
  pub never : (a : ℕ) → r a a ≡ false
  never a = not-holds (r a a) (λ h. lower_never (rank a) a (o.is a a h))

  pub through : (a b c : ℕ) → r a b ≡ true → r b c ≡ true → r a c ≡ true
  through a b c h g = o.so a c (lower_across (o.is b c g) (o.is a b h))

  -- of two different numbers one is before the other
  pub either : (a b : ℕ) → a ≢ b → (r a b ≡ true) ⊎ (r b a ≡ true)
  either a b d =
      ⊎_elim (λ (l : Lower (rank b) (rank a) a b). inl (o.so a b l)) (λ (l : Lower (rank a) (rank b) b a). inr (o.so b a l))
      (lower-either (rank b) (rank a) a b d)

  -- and not the other before it
  pub one_way : (a b : ℕ) → r a b ≡ true → r b a ≡ false
  one_way a b h = not-holds (r b a) (λ g. clash (through a b a h g) (never a))

-- ---- before all others that fit

module _ (n : ℕ) (fit : ℕ → Bool) (r : ℕ → ℕ → Bool) (k : ℕ) where
  -- as a test, and as a sentence
  abbrev pub others : Bool
  others = all_below n (λ j. not (fit j) || (eqb j k || r k j))

  abbrev pub Others : Type 0
  Others = (j : ℕ) → j < n → fit j ≡ true → j ≢ k → r k j ≡ true

  pub others-is : others ≡ true → Others
  others-is h j l c d =
      ⊎_elim (λ (e : not (fit j) ≡ true). clash c (not-true (fit j) e))
      (λ (e : (eqb j k || r k j) ≡ true).
      ⊎_elim (λ (q : eqb j k ≡ true). absurd (d (eqb-true j k q))) (λ (q : r k j ≡ true). q) (or-either (eqb j k) (r k j) e))
      (or-either (not (fit j)) (eqb j k || r k j) (all_at n (λ j. not (fit j) || (eqb j k || r k j)) h j l))

  pub is-others : Others → others ≡ true
  is-others f = at_all n (λ j. not (fit j) || (eqb j k || r k j)) (λ j l. go j l (told (fit j)) (ℕ_discrete j k))
    where
      go : (j : ℕ) → j < n → (fit j ≡ true) ⊎ (fit j ≡ false) → Dec (j ≡ k) → (not (fit j) || (eqb j k || r k j)) ≡ true
      go j l (inr e) d = rw e
      go j l (inl c) (yes e) = or_right (not (fit j)) (or_left (r k j) (eq-eqb j k e))
      go j l (inl c) (no d) = or_right (not (fit j)) (or_right (eqb j k) (f j l c d))
