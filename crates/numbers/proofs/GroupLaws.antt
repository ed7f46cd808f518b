-- Sums of groups: what n digits to the base 128 are worth, which of them count, and that they are settled by what they are worth.
use Prim.Native.Nat.{ℕ, zero, suc, ◌+◌, ◌*◌, ◌/◌, ◌^◌, ◌<◌, ◌≤◌}
use mathlib.Core.Path.{◌≡◌, refl, sym, ap, ◌∙◌}
use mathlib.Core.Logic.{⊎_elim}
use native.Mathlib.Nat.{mul-le-mul_right, pow-le-pow_right, pow-succ', add-mul-div_right, div-eq_of_lt, zero-add, add-zero, le_of_suc-le-suc, eq-or-lt_of_le}
use native.Mathlib.Numerals.{add-one}
use native.Mathlib.Omega.{arith}
use Rattle.words.specs.Counting.{sum_below}

-- what the digits f are worth, n of them, the first one lowest
abbrev pub worth : (ℕ → ℕ) → ℕ → ℕ
worth f n = sum_below n (λ k. f k * 128 ^ k)

-- a digit more
pub worth-more : (f : ℕ → ℕ) (n : ℕ) {w u g : ℕ} → w ≡ worth f n → u ≡ 128 ^ n → g ≡ f n → w + g * u ≡ worth f (n + 1)
unfolding sum_below
worth-more f n e p q = rw (e, p, q, add-one n)

pub unit_pos : (n : ℕ) → 0 < 128 ^ n
unit_pos zero = omega arith
unit_pos (suc n) = omega (arith, unit_pos n, pow-succ' 128 n)

pub unit-more : (n : ℕ) {u : ℕ} → u ≡ 128 ^ n → u * 128 ≡ 128 ^ (n + 1)
unit-more n e = rw (e, add-one n, pow-succ' 128 n) (omega arith)

-- the unit of a number of at most six bytes
pub unit_le : (n : ℕ) {u : ℕ} → u ≡ 128 ^ n → n ≤ 6 → u ≤ 2 ^ 42
unit_le n e l = rw e (pow-le-pow_right {n = 128} (omega arith) {i = n} {j = 6} l)

-- a digit times its unit
pub part_le : (g u : ℕ) → g < 128 → g * u ≤ 127 * u
part_le g u l = mul-le-mul_right u (le_of_suc-le-suc l)

-- n digits are worth less than the next unit
pub worth_lt : (f : ℕ → ℕ) → ((k : ℕ) → f k < 128) → (n : ℕ) → worth f n < 128 ^ n
unfolding sum_below
worth_lt f h zero = omega arith
worth_lt f h (suc n) = omega (arith, worth_lt f h n, part_le (f n) (128 ^ n) (h n), pow-succ' 128 n)

-- digits of 0 on top add nothing
pub worth-padded : (f : ℕ → ℕ) (n d : ℕ) → ((k : ℕ) → n ≤ k → f k ≡ 0) → worth f n ≡ worth f (n + d)
unfolding sum_below
worth-padded f n zero z = ap (worth f) (sym (add-zero n))
worth-padded f n (suc d) z =
    let e : suc (n + d) ≡ n + suc d = omega arith in
    let more : worth f (n + d) ≡ worth f (suc (n + d)) = omega (arith, ap (λ (x : ℕ). x * 128 ^ (n + d)) (z (n + d) (omega arith))) in
    worth-padded f n d z ∙ more ∙ ap (worth f) e

-- the same digits are worth the same
pub worth-same : (f g : ℕ → ℕ) (n : ℕ) → ((k : ℕ) → k < n → f k ≡ g k) → worth f n ≡ worth g n
unfolding sum_below
worth-same f g zero e = refl
worth-same f g (suc n) e = omega (arith, worth-same f g n (λ k l. e k (omega arith)), ap (λ (x : ℕ). x * 128 ^ n) (e n (omega arith)))

-- the last digit is what a division by its unit gives
top_digit : (a g u : ℕ) → a < u → (a + g * u) / u ≡ g
top_digit a g u l = add-mul-div_right a g (omega arith) ∙ ap (λ (x : ℕ). x + g) (div-eq_of_lt l) ∙ zero-add g

-- digits that are worth the same are the same
pub same_digits : (f g : ℕ → ℕ) → ((k : ℕ) → f k < 128) → ((k : ℕ) → g k < 128) → (n : ℕ) → worth f n ≡ worth g n → (k : ℕ) → k < n → f k ≡ g k
unfolding sum_below
same_digits f g hf hg zero e k l = absurd (omega arith)
same_digits f g hf hg (suc n) e k l =
    ⊎_elim (λ (q : k ≡ n). ap f q ∙ top ∙ ap g (sym q)) (λ (q : k < n). same_digits f g hf hg n rest k q)
    (eq-or-lt_of_le (le_of_suc-le-suc l))
  where
    top : f n ≡ g n
    top =
        sym (top_digit (worth f n) (f n) (128 ^ n) (worth_lt f hf n)) ∙ ap (λ (x : ℕ). x / 128 ^ n) e
        ∙ top_digit (worth g n) (g n) (128 ^ n) (worth_lt g hg n)

    rest : worth f n ≡ worth g n
    rest = omega (arith, ap (λ (x : ℕ). x * 128 ^ n) top)
