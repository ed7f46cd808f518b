-- A word that is shifted to the right, bit by bit: what is left after i bits.
use mathlib.Core.Path.{◌≡◌, sym, ap, ◌∙◌}
use mathlib.Core.Bool.{Bool, false, ◌&&◌, ◌||◌, or-false}
use Prim.Native.Nat.{ℕ, ◌+◌, ◌-◌, ◌/◌, ◌%◌, ◌^◌, ◌≤◌, ◌<◌}
use native.Mathlib.Nat.{zero-div, div-eq_of_lt, lt_of_lt_of_le, lt_of_not-le}
use native.Mathlib.Omega.{arith}
use lib.Dec.{eqb}
use lib.Pow.{pow_mono, shr-shr}
use Rattle.words.specs.Counting.{any_below}
use Rattle.words.specs.Word.{bit}
use Rattle.words.proofs.CountingLaws.{any_none, any-add}

-- nothing is left after i bits: none is set from i on
pub bit-gone : (w i j : ℕ) → w / 2 ^ i ≡ 0 → bit w (i + j) ≡ false
unfolding bit
bit-gone w i j e = ap (λ (n : ℕ). eqb (n % 2) 1) (sym (shr-shr w i j) ∙ ap (λ (n : ℕ). n / 2 ^ j) e ∙ zero-div (2 ^ j))

-- something is left: i is below the width
pub bit-left : (n w i : ℕ) → w < 2 ^ n → (w / 2 ^ i ≡ 0 → ⊥) → i < n
bit-left n w i f l = lt_of_not-le (λ g. l (div-eq_of_lt (lt_of_lt_of_le f (pow_mono g))))

-- the bits below i, and none from i on
pub any_gone : (n w i : ℕ) (q : ℕ → Bool) → w / 2 ^ i ≡ 0 → i ≤ n → any_below i (λ j. bit w j && q j) ≡ any_below n (λ j. bit w j && q j)
any_gone n w i q e l =
    sym (or-false (any_below i (λ j. bit w j && q j)))
    ∙ ap (λ (b : Bool). any_below i (λ j. bit w j && q j) || b)
    (sym (any_none (n - i) (λ j. bit w (i + j) && q (i + j)) (λ j _. ap (λ (b : Bool). b && q (i + j)) (bit-gone w i j e))))
    ∙ sym (any-add i (n - i) (λ j. bit w j && q j)) ∙ ap (λ (k : ℕ). any_below k (λ j. bit w j && q j)) (omega arith)
