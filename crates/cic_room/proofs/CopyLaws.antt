-- One word more is put, and what stands elsewhere stays.
use mathlib.Core.Path.{◌≡◌, refl, sym, ap, subst, ◌∙◌}
use mathlib.Core.List.{List}
use mathlib.Core.Logic.{inl, inr, ⊎_elim}
use Prim.Native.Nat.{ℕ, ◌+◌, ◌<◌, ◌≤◌}
use native.Mathlib.Decide.{ℕ_discrete}
use native.Mathlib.Omega.{arith}
use lib.ListN.{length, get_or, set, length-set}
use lib.Seq.{get_or-set_same, get_or-set_other}
use Rattle.cic_room.specs.Tables.{Table}
use Rattle.cic_room.specs.Copies.{Copied}

pub copied_none : (at : ℕ) (f : ℕ → ℕ) (old : List ℕ) → Copied at 0 f old old
copied_none at f old = record { long = refl; table = record { holds = λ k l. absurd (omega (arith, l)) }; others = λ i _. refl }

pub copied_more : {at : ℕ} {f : ℕ → ℕ} {old new : List ℕ} (k v : ℕ) → at + k < length old → v ≡ f k → Copied at k f old new → Copied at (k + 1) f old (set new (at + k) v)
copied_more {at = at} {f = f} {old = old} {new = new} k v l e c =
    record {
      long = simp length-set c.long;
      table = record { holds = λ j m. go j m (ℕ_discrete j k) };
      others = λ i o. get_or-set_other new (at + k) i v 0 (λ q. ⊎_elim (λ (x : i < at). absurd (omega (arith, x, q))) (λ (x : at + (k + 1) ≤ i). absurd (omega (arith, x, q))) o)
          ∙ c.others i (⊎_elim (λ (x : i < at). inl x) (λ (x : at + (k + 1) ≤ i). inr (omega (arith, x))) o);
    }
  where
    go : (j : ℕ) → j < k + 1 → Dec (j ≡ k) → get_or (set new (at + k) v) (at + j) 0 ≡ f j
    go j m (yes p) = ap (λ (x : ℕ). get_or (set new (at + k) v) (at + x) 0) p ∙ get_or-set_same new (at + k) v 0 (omega (arith, l, c.long)) ∙ e ∙ ap f (sym p)
    go j m (no p) = get_or-set_other new (at + k) (at + j) v 0 (λ q. p (omega (arith, q))) ∙ c.table.holds j (omega (arith, m, p))

pub copied_all : {at n m : ℕ} {f : ℕ → ℕ} {old new : List ℕ} → n ≤ m → m ≤ n → Copied at n f old new → Copied at m f old new
copied_all {at = at} {n = n} {m = m} l l' c =
    record { long = c.long; table = record { holds = λ k i. c.table.holds k (omega (arith, i, l')) }; others = λ i o. c.others i (⊎_elim (λ (x : i < at). inl x) (λ (x : at + m ≤ i). inr (omega (arith, x, l, l'))) o) }

-- another table
module _ {at n : ℕ} {f : ℕ → ℕ} {old new : List ℕ} (c : Copied at n f old new) {p m : ℕ} {g : ℕ → ℕ} where
  pub below : p + m ≤ at → Table old p m g → Table new p m g
  below l t = record { holds = λ k i. c.others (p + k) (inl (omega (arith, l, i))) ∙ t.holds k i }

  pub above : at + n ≤ p → Table old p m g → Table new p m g
  above l t = record { holds = λ k i. c.others (p + k) (inr (omega (arith, l))) ∙ t.holds k i }

-- the words one by one
pub words_more : (P : ℕ → ℕ → Type 0) (out : List ℕ) (k x : ℕ) → k < length out → ((i : ℕ) → i < k → P i (get_or out i 0)) → P k x → (i : ℕ) → i < k + 1 → P i (get_or (set out k x) i 0)
words_more P out k x l h p i m = go (ℕ_discrete i k)
  where
    go : Dec (i ≡ k) → P i (get_or (set out k x) i 0)
    go (yes e) = subst (λ (j : ℕ). P j (get_or (set out k x) j 0)) (sym e) (subst (P k) (sym (get_or-set_same out k x 0 l)) p)
    go (no o) = subst (P i) (sym (get_or-set_other out k i x 0 o)) (h i (omega (arith, m, o)))

-- the same words by another function
pub copied_as : {at n : ℕ} {f g : ℕ → ℕ} {old new : List ℕ} → ((k : ℕ) → k < n → f k ≡ g k) → Copied at n f old new → Copied at n g old new
copied_as e c = record { long = c.long; table = record { holds = λ k l. c.table.holds k l ∙ e k l }; others = c.others }

-- a list that is copied whole
pub copied_whole : {at n m : ℕ} {f : ℕ → ℕ} {old new : List ℕ} → n ≡ m → Copied at n f old new → Copied at m f old new
copied_whole e c = copied_all (omega (arith, e)) (omega (arith, e)) c
