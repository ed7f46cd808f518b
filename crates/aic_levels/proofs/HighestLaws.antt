-- The highest level of a byte.
use mathlib.Core.Path.{◌≡◌, refl, ap, ◌∙◌}
use mathlib.Core.Bool.{true, false}
use mathlib.Core.Logic.{◌≢◌}
use Prim.Native.Nat.{ℕ, zero, suc, ◌≤◌, ◌<◌}
use native.Mathlib.Decide.{ℕ_discrete}
use native.Mathlib.Omega.{arith}
use Rattle.words.specs.Choice.{pick}
use Rattle.words.specs.Counting.{upto}
use Rattle.words.specs.Word.{bit}
use Rattle.words.proofs.ChoiceLaws.{pick_cases}
use Rattle.words.proofs.TruthLaws.{clash, not-holds}
use Rattle.words.proofs.WordLaws.{bit-some, bit-none}
use Rattle.aic_levels.specs.Levels.{highest_of}

-- t is the highest bit of b below n, or 255 where there is none
pub record Highest (b n t : ℕ) : Type 0 where
  pub none : t ≡ 255 → (p : ℕ) → p < n → bit b p ≡ false
  pub some : t ≢ 255 → (t < n) × (bit b t ≡ true)
  pub over : (p : ℕ) → p < n → bit b p ≡ true → p ≤ t

-- one turn of the definition: bit n is the highest below n + 1, or the one found below n still is
turn : (b n t : ℕ) → n < 8 → Highest b n t → Highest b (suc n) (pick (bit b n) n t)
turn b n t l h = pick_cases (Highest b (suc n)) (bit b n) here below
  where
    here : bit b n ≡ true → Highest b (suc n) n
    here e = record { none = λ z p m. absurd (omega arith); some = λ d. (omega arith, e); over = λ p m y. omega arith }

    lower : bit b n ≡ false → t ≡ 255 → (p : ℕ) → p < suc n → Dec (p ≡ n) → bit b p ≡ false
    lower f z p m (yes e) = ap (bit b) e ∙ f
    lower f z p m (no d) = h.none z p (omega arith)

    upper : bit b n ≡ false → (p : ℕ) → p < suc n → bit b p ≡ true → Dec (p ≡ n) → p ≤ t
    upper f p m y (yes e) = clash y (ap (bit b) e ∙ f)
    upper f p m y (no d) = h.over p (omega arith) y

    below : bit b n ≡ false → Highest b (suc n) t
    below f =
        record {
          none = λ z p m. lower f z p m (ℕ_discrete p n);
          some = λ d. (omega (arith, (h.some d).0), (h.some d).1);
          over = λ p m y. upper f p m y (ℕ_discrete p n);
        }

highest-below : (b n : ℕ) → n ≤ 8 → Highest b n (upto (λ (found p : ℕ). pick (bit b p) p found) 255 n)
unfolding upto
highest-below b zero l = record { none = λ e p m. absurd (omega arith); some = λ d. absurd (d refl); over = λ p m. absurd (omega arith) }
highest-below b (suc n) l = turn b n _ l (highest-below b n (omega arith))

-- the highest level of a byte is a bit of it with none above, or 255 where none of the eight is set
pub highest-is : (b : ℕ) → Highest b 8 (highest_of b)
unfolding highest_of
highest-is b = highest-below b 8 (omega arith)

-- it is 255 exactly if the byte is 0
pub highest-none : (b : ℕ) → b < 256 → highest_of b ≡ 255 → b ≡ 0
highest-none b l e = bit-some 8 b l ((highest-is b).none e)

pub highest-zero : highest_of 0 ≡ 255
highest-zero = go (ℕ_discrete (highest_of 0) 255)
  where
    go : Dec (highest_of 0 ≡ 255) → highest_of 0 ≡ 255
    go (yes e) = e
    go (no d) = clash ((highest-is 0).some d).1 (bit-none (highest_of 0))

-- no bit above it is set, up to the end of the byte
pub highest_last : (b p : ℕ) → highest_of b < p → p < 8 → bit b p ≡ false
highest_last b p l m = not-holds (bit b p) (λ y. omega (arith, (highest-is b).over p m y))
