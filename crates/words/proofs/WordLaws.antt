-- The bits of a word, over any width n: of a gathered word, of what `|`, `&`, `!` and `%` make, and words that are equal if their bits are.
use mathlib.Core.Path.{◌≡◌, refl, sym, ap, ap₂, ◌∙◌}
use mathlib.Core.Bool.{Bool, true, false, not, ◌&&◌, ◌||◌, and-true, and-false, or-true, or-false}
use mathlib.Core.Logic.{◌≢◌, ◌⊎◌, inl, inr}
use Prim.Native.Nat.{ℕ, zero, suc, ◌+◌, ◌-◌, ◌*◌, ◌/◌, ◌%◌, ◌^◌, ◌≤◌, ◌<◌}
use native.Mathlib.Nat.{mod-lt, mod-eq_of_lt, div-eq_of_lt, lt_of_lt_of_le, zero-add, div-one, one-mul}
use native.Mathlib.Decide.{dec_lt, ℕ_discrete}
use native.Mathlib.Omega.{arith}
use borrow.Author.Tests.{eq-eqb, ne_eqb, eqb-true, lt-ltb, le-ltb}
use lib.Bits.{bit_and, bit_or, and_shr, and_mod, or_shr, or_mod, or_lt, and_lt}
use lib.Count.{ones, ones_step, under, count_trailing_zeros}
use lib.Dec.{eqb, ltb}
use lib.Pow.{pow_pos, pow_mono, pow-lt, high, low, field, mod-mod-pow, mod-pow-add, shr-shr, ones_sub-lt, shl_exact}
use Rattle.words.specs.Choice.{pick}
use Rattle.words.specs.Counting.{any_below, one, count_below, lowest_below}
use Rattle.words.specs.Word.{bit, word_of, either, both, without, with_bit, kept, clean}
use Rattle.words.proofs.ChoiceLaws.{pick_true, pick-false, pick_cases}
use Rattle.words.proofs.CountingLaws.{any_some, some_any, any_fails, any_none, count_same, count_add, Lowest, lowest_found, lowest-one}
use Rattle.words.proofs.TruthLaws.{clash, told}

-- ---- a gathered word

pub word_of_lt : (n : ℕ) (f : ℕ → Bool) → word_of n f < 2 ^ n
unfolding word_of
word_of_lt zero f = omega arith
word_of_lt (suc n) f = go (f n) (word_of_lt n f)
  where
    go : (b : Bool) → word_of n f < 2 ^ n → one b * 2 ^ n + word_of n f < 2 ^ suc n
    go true h = omega arith
    go false h = omega arith

-- a digit in base 2 is what its test counts
pub one-eqb : (x : ℕ) → x < 2 → one (eqb x 1) ≡ x
one-eqb zero h = refl
one-eqb (suc zero) h = refl
one-eqb (suc (suc x)) h = absurd (omega arith)

eqb-one : (b : Bool) → eqb (one b % 2) 1 ≡ b
eqb-one true = refl
eqb-one false = refl

-- dropping the bits from n on leaves those below n
pub bit_mod : (w n k : ℕ) → k < n → bit (w % 2 ^ n) k ≡ bit w k
unfolding bit
bit_mod w n k h =
    let e : (n - k - 1 + 1) + k ≡ n = omega arith in
    let p : w % 2 ^ n / 2 ^ k ≡ w / 2 ^ k % 2 ^ (n - k - 1 + 1) = ap (λ (m : ℕ). w % 2 ^ m / 2 ^ k) (sym e) ∙ field w (n - k - 1 + 1) k in
    ap (λ (x : ℕ). eqb (x % 2) 1) p ∙ ap (λ (x : ℕ). eqb x 1) (mod-mod-pow (w / 2 ^ k) (n - k - 1) 1)

pub bit-word_of : (n : ℕ) (f : ℕ → Bool) (k : ℕ) → k < n → bit (word_of n f) k ≡ f k
unfolding word_of
bit-word_of zero f k h = absurd (omega arith)
bit-word_of (suc n) f k h = go (dec_lt k n) (bit-word_of n f k)
  where
    go : Dec (k < n) → (k < n → bit (word_of n f) k ≡ f k) → bit (one (f n) * 2 ^ n + word_of n f) k ≡ f k
    go (yes l) ih = sym (bit_mod (one (f n) * 2 ^ n + word_of n f) n k l) ∙ ap (λ (x : ℕ). bit x k) (low (one (f n)) n (word_of_lt n f)) ∙ ih l
    go (no g) ih =
        let e : n ≡ k = omega arith in
        rw (← e) (unfold bit in (ap (λ (x : ℕ). eqb (x % 2) 1) (high (one (f n)) n (word_of_lt n f)) ∙ eqb-one (f n)))

-- tests that agree below n gather one word
pub word_of-same : (n : ℕ) (f g : ℕ → Bool) → ((k : ℕ) → k < n → f k ≡ g k) → word_of n f ≡ word_of n g
unfolding word_of
word_of-same zero f g h = refl
word_of-same (suc n) f g h = ap₂ (λ (x : Bool) (y : ℕ). one x * 2 ^ n + y) (h n (omega arith)) (word_of-same n f g (λ k l. h k (omega arith)))

-- the word of a word's bits
pub word_of-bit : (n w : ℕ) → word_of n (bit w) ≡ w % 2 ^ n
unfolding word_of bit
word_of-bit zero w = omega arith
word_of-bit (suc n) w =
    ap₂ (λ (x y : ℕ). x * 2 ^ n + y) (one-eqb (w / 2 ^ n % 2) (mod-lt (w / 2 ^ n) (omega arith))) (word_of-bit n w)
    ∙ sym (mod-pow-add w 1 n) ∙ ap (λ (m : ℕ). w % 2 ^ m) (omega arith)

-- a word of n bits is the word gathered from its bits
pub word-is : (n w : ℕ) (f : ℕ → Bool) → w < 2 ^ n → ((k : ℕ) → k < n → bit w k ≡ f k) → w ≡ word_of n f
word-is n w f l h = sym (mod-eq_of_lt l) ∙ sym (word_of-bit n w) ∙ word_of-same n (bit w) f h

-- words of n bits are equal if their bits are
pub same_word : (n a b : ℕ) → a < 2 ^ n → b < 2 ^ n → ((k : ℕ) → k < n → bit a k ≡ bit b k) → a ≡ b
same_word n a b la lb h = word-is n a (bit b) la h ∙ word_of-bit n b ∙ mod-eq_of_lt lb

-- a word has no bit past its width
pub bit_past : (n w k : ℕ) → w < 2 ^ n → n ≤ k → bit w k ≡ false
unfolding bit
bit_past n w k h l = ap (λ (x : ℕ). eqb (x % 2) 1) (div-eq_of_lt (lt_of_lt_of_le h (pow_mono l)))

pub bit-none : (k : ℕ) → bit 0 k ≡ false
bit-none k = bit_past 0 0 k (omega arith) (omega arith)

-- a word that is not 0 has a bit
pub bit-some : (n w : ℕ) → w < 2 ^ n → ((k : ℕ) → k < n → bit w k ≡ false) → w ≡ 0
bit-some n w l h = same_word n w 0 l (pow_pos n) (λ k m. h k m ∙ sym (bit-none k))

-- ---- the machine's `&`, `|`, `!` and `1 << k`

digit_and : (x y : ℕ) → x < 2 → y < 2 → eqb (bit_and x y) 1 ≡ (eqb x 1 && eqb y 1)
digit_and zero zero h k = refl
digit_and zero (suc zero) h k = refl
digit_and (suc zero) zero h k = refl
digit_and (suc zero) (suc zero) h k = refl
digit_and zero (suc (suc y)) h k = absurd (omega arith)
digit_and (suc zero) (suc (suc y)) h k = absurd (omega arith)
digit_and (suc (suc x)) y h k = absurd (omega arith)

digit_or : (x y : ℕ) → x < 2 → y < 2 → eqb (bit_or x y) 1 ≡ (eqb x 1 || eqb y 1)
digit_or zero zero h k = refl
digit_or zero (suc zero) h k = refl
digit_or (suc zero) zero h k = refl
digit_or (suc zero) (suc zero) h k = refl
digit_or zero (suc (suc y)) h k = absurd (omega arith)
digit_or (suc zero) (suc (suc y)) h k = absurd (omega arith)
digit_or (suc (suc x)) y h k = absurd (omega arith)

pub bit-and : (a b k : ℕ) → bit (bit_and a b) k ≡ (bit a k && bit b k)
unfolding bit
bit-and a b k =
    ap (λ (x : ℕ). eqb (x % 2) 1) (and_shr a b k) ∙ ap (λ (x : ℕ). eqb x 1) (and_mod (a / 2 ^ k) (b / 2 ^ k) 1)
    ∙ digit_and (a / 2 ^ k % 2) (b / 2 ^ k % 2) (mod-lt (a / 2 ^ k) (omega arith)) (mod-lt (b / 2 ^ k) (omega arith))

pub bit_or_lem : (a b k : ℕ) → bit (bit_or a b) k ≡ (bit a k || bit b k)
unfolding bit
bit_or_lem a b k =
    ap (λ (x : ℕ). eqb (x % 2) 1) (or_shr a b k) ∙ ap (λ (x : ℕ). eqb x 1) (or_mod (a / 2 ^ k) (b / 2 ^ k) 1)
    ∙ digit_or (a / 2 ^ k % 2) (b / 2 ^ k % 2) (mod-lt (a / 2 ^ k) (omega arith)) (mod-lt (b / 2 ^ k) (omega arith))

others : (n : ℕ) (f : ℕ → Bool) → word_of n f + word_of n (λ k. not (f k)) + 1 ≡ 2 ^ n
unfolding word_of
others zero f = refl
others (suc n) f = go (f n) (others n f)
  where
    go : (b : Bool) → word_of n f + word_of n (λ k. not (f k)) + 1 ≡ 2 ^ n
        → one b * 2 ^ n + word_of n f + (one (not b) * 2 ^ n + word_of n (λ k. not (f k))) + 1 ≡ 2 ^ suc n
    go true h = omega arith
    go false h = omega arith

pub bit_not : (n w k : ℕ) → w < 2 ^ n → k < n → bit (2 ^ n - 1 - w) k ≡ not (bit w k)
bit_not n w k l h =
    let e : 2 ^ n - 1 - w ≡ word_of n (λ j. not (bit w j)) = omega (arith, others n (bit w), word_of-bit n w ∙ mod-eq_of_lt l) in
    ap (λ (x : ℕ). bit x k) e ∙ bit-word_of n (λ j. not (bit w j)) k h

-- the word with bit k alone
pub alone : (k : ℕ) → 2 ^ k ≡ word_of (suc k) (λ j. eqb j k)
unfolding word_of
alone k = rw (eq-eqb k k refl) (omega (arith, none k k (omega arith)))
  where
    none : (n k : ℕ) → n ≤ k → word_of n (λ j. eqb j k) ≡ 0
    none zero k l = refl
    none (suc n) k l = rw (ne_eqb n k (omega arith), none n k (omega arith)) (omega arith)

pub bit_alone : (k j : ℕ) → bit (2 ^ k) j ≡ eqb j k
bit_alone k j = go (dec_lt j (suc k))
  where
    go : Dec (j < suc k) → bit (2 ^ k) j ≡ eqb j k
    go (yes l) = ap (λ (x : ℕ). bit x j) (alone k) ∙ bit-word_of (suc k) (λ i. eqb i k) j l
    go (no g) = bit_past (suc k) (2 ^ k) j (pow-lt (omega arith)) (omega arith) ∙ sym (ne_eqb j k (omega arith))

-- the machine's `1 << k` in 32 bits
pub one_shifted : (k : ℕ) → k < 32 → 1 * 2 ^ k % 2 ^ 32 ≡ 2 ^ k
one_shifted k l = shl_exact {a = 1} 1 k 32 (omega arith) (omega arith) ∙ one-mul (2 ^ k)

-- ---- the words of specs/Word.antt, of 32 bits, as the machine makes them

pub or-either : (a b : ℕ) → a < 2 ^ 32 → b < 2 ^ 32 → bit_or a b ≡ either a b
unfolding either
or-either a b la lb = word-is 32 (bit_or a b) (λ k. bit a k || bit b k) (or_lt 32 a b la lb) (λ k l. bit_or_lem a b k)

pub and-both_bits : (a b : ℕ) → a < 2 ^ 32 → b < 2 ^ 32 → bit_and a b ≡ both a b
unfolding both
and-both_bits a b la lb = word-is 32 (bit_and a b) (λ k. bit a k && bit b k) (and_lt 32 a b la lb) (λ k l. bit-and a b k)

pub and-without : (a b : ℕ) → a < 2 ^ 32 → b < 2 ^ 32 → bit_and a (2 ^ 32 - 1 - b) ≡ without a b
unfolding without
and-without a b la lb =
    word-is 32 (bit_and a (2 ^ 32 - 1 - b)) (λ k. bit a k && not (bit b k)) (and_lt 32 a (2 ^ 32 - 1 - b) la (ones_sub-lt 32 b))
    (λ k l. bit-and a (2 ^ 32 - 1 - b) k ∙ ap (λ (t : Bool). bit a k && t) (bit_not 32 b k lb l))

or_put : (a : Bool) (b : Bool) → (a || b) ≡ pick b true a
unfolding pick
or_put true true = refl
or_put true false = refl
or_put false true = refl
or_put false false = refl

and-put : (a : Bool) (b : Bool) → (a && not b) ≡ pick b false a
unfolding pick
and-put true true = refl
and-put true false = refl
and-put false true = refl
and-put false false = refl

pub or-with_bit : (w k : ℕ) → w < 2 ^ 32 → k < 32 → bit_or w (2 ^ k) ≡ with_bit w k true
unfolding with_bit
or-with_bit w k lw lk =
    word-is 32 (bit_or w (2 ^ k)) (λ j. pick (eqb j k) true (bit w j)) (or_lt 32 w (2 ^ k) lw (pow-lt lk))
    (λ j l. bit_or_lem w (2 ^ k) j ∙ ap (λ (t : Bool). bit w j || t) (bit_alone k j) ∙ or_put (bit w j) (eqb j k))

pub and-with_bit : (w k : ℕ) → w < 2 ^ 32 → k < 32 → bit_and w (2 ^ 32 - 1 - 2 ^ k) ≡ with_bit w k false
unfolding with_bit
and-with_bit w k lw lk =
    word-is 32 (bit_and w (2 ^ 32 - 1 - 2 ^ k)) (λ j. pick (eqb j k) false (bit w j)) (and_lt 32 w (2 ^ 32 - 1 - 2 ^ k) lw (ones_sub-lt 32 (2 ^ k)))
    (λ j l.
    bit-and w (2 ^ 32 - 1 - 2 ^ k) j ∙ ap (λ (t : Bool). bit w j && t) (bit_not 32 (2 ^ k) j (pow-lt lk) l ∙ ap not (bit_alone k j))
    ∙ and-put (bit w j) (eqb j k))

pub past-with_bit : (w k : ℕ) (t : Bool) → w < 2 ^ 32 → 32 ≤ k → w ≡ with_bit w k t
unfolding with_bit
past-with_bit w k t lw lk =
    word-is 32 w (λ j. pick (eqb j k) t (bit w j)) lw (λ j l. pick-false t (ne_eqb j k (omega arith)))

-- ---- their bits, for callers

pub bit-either : (a b k : ℕ) → k < 32 → bit (either a b) k ≡ (bit a k || bit b k)
unfolding either
bit-either a b k l = bit-word_of 32 (λ j. bit a j || bit b j) k l

pub bit-both : (a b k : ℕ) → k < 32 → bit (both a b) k ≡ (bit a k && bit b k)
unfolding both
bit-both a b k l = bit-word_of 32 (λ j. bit a j && bit b j) k l

pub bit-without : (a b k : ℕ) → k < 32 → bit (without a b) k ≡ (bit a k && not (bit b k))
unfolding without
bit-without a b k l = bit-word_of 32 (λ j. bit a j && not (bit b j)) k l

pub bit-with_bit : (w k : ℕ) (t : Bool) (j : ℕ) → j < 32 → bit (with_bit w k t) j ≡ pick (eqb j k) t (bit w j)
unfolding with_bit
bit-with_bit w k t j l = bit-word_of 32 (λ i. pick (eqb i k) t (bit w i)) j l

pub either_lt : (a b : ℕ) → either a b < 2 ^ 32
unfolding either
either_lt a b = word_of_lt 32 (λ k. bit a k || bit b k)

pub both_lt : (a b : ℕ) → both a b < 2 ^ 32
unfolding both
both_lt a b = word_of_lt 32 (λ k. bit a k && bit b k)

pub without_lt : (a b : ℕ) → without a b < 2 ^ 32
unfolding without
without_lt a b = word_of_lt 32 (λ k. bit a k && not (bit b k))

pub with_bit_lt : (w k : ℕ) (t : Bool) → with_bit w k t < 2 ^ 32
unfolding with_bit
with_bit_lt w k t = word_of_lt 32 (λ j. pick (eqb j k) t (bit w j))

-- a turn of a loop that gathers a word: w so far, t of this one
pub word_of-more : (f : ℕ → Bool) (n : ℕ) {w : ℕ} {t : Bool} → n < 32 → w ≡ word_of n f → t ≡ f n → with_bit w n t ≡ word_of (n + 1) f
word_of-more f n {w} {t} l e q =
    let big : word_of n f < 2 ^ 32 = lt_of_lt_of_le (word_of_lt n f) (pow_mono {i = n} {j = 32} (omega arith)) in
    let wide : word_of (n + 1) f < 2 ^ 32 = lt_of_lt_of_le (word_of_lt (n + 1) f) (pow_mono {i = n + 1} {j = 32} (omega arith)) in
    rw e (same_word 32 (with_bit (word_of n f) n t) (word_of (n + 1) f) (with_bit_lt (word_of n f) n t) wide
    (λ k m. bit-with_bit (word_of n f) n t k m ∙ turn k (ℕ_discrete k n) (dec_lt k n)))
  where
    turn : (k : ℕ) → Dec (k ≡ n) → Dec (k < n) → pick (eqb k n) t (bit (word_of n f) k) ≡ bit (word_of (n + 1) f) k
    turn k (yes p) d = sym (pick_true (bit (word_of n f) k) (eq-eqb k n p)) ∙ q ∙ ap f (sym p) ∙ sym (bit-word_of (n + 1) f k (omega arith))
    turn k (no p) (yes m) = sym (pick-false t (ne_eqb k n p)) ∙ bit-word_of n f k m ∙ sym (bit-word_of (n + 1) f k (omega arith))
    turn k (no p) (no m) = sym (pick-false t (ne_eqb k n p)) ∙ bit_past n (word_of n f) k (word_of_lt n f) (omega arith) ∙ sym (bit_past (n + 1) (word_of (n + 1) f) k (word_of_lt (n + 1) f) (omega arith))

pub word_of-none_yet : (f : ℕ → Bool) → ◌≡◌ {A = ℕ} 0 (word_of 0 f)
unfolding word_of
word_of-none_yet f = refl

-- ---- one bit put anew, and one bit looked at

-- the bits of a word that a word of one bit has
pub both_alone : (w k : ℕ) → k < 32 → both w (2 ^ k) ≡ pick (bit w k) (2 ^ k) 0
unfolding pick
both_alone w k l =
    same_word 32 (both w (2 ^ k)) (pick (bit w k) (2 ^ k) 0) (both_lt w (2 ^ k))
    (pick_cases (λ n. n < 2 ^ 32) (bit w k) (λ _. pow-lt l) (λ _. pow_pos 32))
    (λ j m. bit-both w (2 ^ k) j m ∙ ap (λ (t : Bool). bit w j && t) (bit_alone k j) ∙ go j (ℕ_discrete j k))
  where
    at : (t : Bool) → t ≡ bit (pick t (2 ^ k) 0) k
    at true = sym (bit_alone k k ∙ eq-eqb k k refl)
    at false = sym (bit-none k)

    go : (j : ℕ) → Dec (j ≡ k) → (bit w j && eqb j k) ≡ bit (pick (bit w k) (2 ^ k) 0) j
    go j (yes e) = rw (e, eq-eqb k k refl) (and-true (bit w k) ∙ at (bit w k))
    go j (no n) =
        rw (ne_eqb j k n) (and-false (bit w j) ∙ sym (pick_cases (λ x. bit x j ≡ false) (bit w k) (λ _. bit_alone k j ∙ ne_eqb j k n) (λ _. bit-none j)))

-- a bit cleared, or set, and then the same where a test holds
pub bit-cleared : (w k j : ℕ) → j < 32 → bit (with_bit w k false) j ≡ (bit w j && not (eqb j k))
unfolding pick
bit-cleared w k j l = bit-with_bit w k false j l ∙ go (eqb j k) (bit w j)
  where
    go : (q b : Bool) → pick q false b ≡ (b && not q)
    go true b = sym (and-false b)
    go false b = sym (and-true b)

pub bit-put : (w k j : ℕ) → j < 32 → bit (with_bit w k true) j ≡ (bit w j || eqb j k)
unfolding pick
bit-put w k j l = bit-with_bit w k true j l ∙ go (eqb j k) (bit w j)
  where
    go : (q b : Bool) → pick q true b ≡ (b || q)
    go true b = sym (or-true b)
    go false b = sym (or-false b)

pub bit-cleared_if : (w k : ℕ) (t : Bool) (j : ℕ) → j < 32 → bit (pick t (with_bit w k false) w) j ≡ (bit w j && not (eqb j k && t))
unfolding pick
bit-cleared_if w k true j l = bit-cleared w k j l ∙ sym (ap (λ (x : Bool). bit w j && not x) (and-true (eqb j k)))
bit-cleared_if w k false j l = sym (ap (λ (x : Bool). bit w j && not x) (and-false (eqb j k)) ∙ and-true (bit w j))

pub bit-put_if : (w k : ℕ) (t : Bool) (j : ℕ) → j < 32 → bit (pick t (with_bit w k true) w) j ≡ (bit w j || (eqb j k && t))
unfolding pick
bit-put_if w k true j l = bit-put w k j l ∙ sym (ap (λ (x : Bool). bit w j || x) (and-true (eqb j k)))
bit-put_if w k false j l = sym (ap (λ (x : Bool). bit w j || x) (and-false (eqb j k)) ∙ or-false (bit w j))

-- ---- dropped bits

pub bit_kept : (n w k : ℕ) → bit (kept n w) k ≡ (bit w k && ltb k n)
unfolding kept
bit_kept n w k = go (dec_lt k n)
  where
    go : Dec (k < n) → bit (w % 2 ^ n) k ≡ (bit w k && ltb k n)
    go (yes l) = bit_mod w n k l ∙ sym (ap (λ (t : Bool). bit w k && t) (lt-ltb k n l) ∙ and-true (bit w k))
    go (no g) = bit_past n (w % 2 ^ n) k (mod-lt w (pow_pos n)) (omega arith) ∙ sym (ap (λ (t : Bool). bit w k && t) (le-ltb k n (omega arith)) ∙ and-false (bit w k))

pub kept_lt : (n w : ℕ) → kept n w < 2 ^ n
unfolding kept
kept_lt n w = mod-lt w (pow_pos n)

-- a word is clean from n on exactly if it is below 2 ^ n
pub clean_lt : (n w : ℕ) → clean n w ≡ true → w < 2 ^ n
unfolding clean
clean_lt n w e = rw (sym (eqb-true (kept n w) w e)) (kept_lt n w)

pub lt-clean : (n w : ℕ) → w < 2 ^ n → clean n w ≡ true
unfolding clean kept
lt-clean n w l = eq-eqb (w % 2 ^ n) w (mod-eq_of_lt l)

-- a word of m bits with none from n on is clean from n on
pub bits-clean : (m n w : ℕ) → w < 2 ^ m → ((k : ℕ) → n ≤ k → k < m → bit w k ≡ false) → clean n w ≡ true
unfolding clean
bits-clean m n w l h = eq-eqb (kept n w) w (go (dec_lt n m))
  where
    go : Dec (n < m) → kept n w ≡ w
    go (yes s) = same_word m (kept n w) w (lt_of_lt_of_le (kept_lt n w) (pow_mono (omega arith))) l (λ k q. bit_kept n w k ∙ turn k q (dec_lt k n))
      where
        turn : (k : ℕ) → k < m → Dec (k < n) → (bit w k && ltb k n) ≡ bit w k
        turn k q (yes p) = ap (λ (t : Bool). bit w k && t) (lt-ltb k n p) ∙ and-true (bit w k)
        turn k q (no p) = ap (λ (t : Bool). t && ltb k n) (h k (omega arith) q) ∙ sym (h k (omega arith) q)
    go (no s) = unfold kept in (mod-eq_of_lt (lt_of_lt_of_le l (pow_mono (omega arith))))

-- ---- words of at most n bits stay such, and a word that is not 0 has a bit

pub either_narrow : (n a b : ℕ) → a < 2 ^ n → b < 2 ^ n → either a b < 2 ^ n
either_narrow n a b p q =
    clean_lt n (either a b)
    (bits-clean 32 n (either a b) (either_lt a b) (λ k r s. bit-either a b k s ∙ ap₂ ◌||◌ (bit_past n a k p r) (bit_past n b k q r)))

pub both_narrow : (n a b : ℕ) → a < 2 ^ n → both a b < 2 ^ n
both_narrow n a b p =
    clean_lt n (both a b)
    (bits-clean 32 n (both a b) (both_lt a b) (λ k r s. bit-both a b k s ∙ ap (λ (t : Bool). t && bit b k) (bit_past n a k p r)))

pub without_narrow : (n a b : ℕ) → a < 2 ^ n → without a b < 2 ^ n
without_narrow n a b p =
    clean_lt n (without a b)
    (bits-clean 32 n (without a b) (without_lt a b) (λ k r s. bit-without a b k s ∙ ap (λ (t : Bool). t && not (bit b k)) (bit_past n a k p r)))

pub with_bit_narrow : (n w k : ℕ) (t : Bool) → k < n → w < 2 ^ n → with_bit w k t < 2 ^ n
with_bit_narrow n w k t l p =
    clean_lt n (with_bit w k t)
    (bits-clean 32 n (with_bit w k t) (with_bit_lt w k t)
    (λ j r s. bit-with_bit w k t j s ∙ sym (pick-false t (ne_eqb j k (omega arith))) ∙ bit_past n w j p r))

-- a word that is not 0 has a bit
pub some-bit : (n w : ℕ) → w < 2 ^ n → w ≢ 0 → (k : ℕ) × (k < n) × (bit w k ≡ true)
some-bit n w l d = go (told (any_below n (bit w)))
  where
    go : (any_below n (bit w) ≡ true) ⊎ (any_below n (bit w) ≡ false) → (k : ℕ) × (k < n) × (bit w k ≡ true)
    go (inl e) = any_some n (bit w) e
    go (inr e) = absurd (d (bit-some n w l (any_fails n (bit w) e)))

-- a word is not 0 exactly if some bit of it is set
pub nonzero_any : (n w : ℕ) → w < 2 ^ n → not (eqb w 0) ≡ any_below n (bit w)
nonzero_any n w l = go (ℕ_discrete w 0)
  where
    go : Dec (w ≡ 0) → not (eqb w 0) ≡ any_below n (bit w)
    go (yes e) = ap not (eq-eqb w 0 e) ∙ sym (any_none n (bit w) (λ k m. ap (λ (x : ℕ). bit x k) e ∙ bit-none k))
    go (no d) = ap not (ne_eqb w 0 d) ∙ sym (let b = some-bit n w l d in some_any n (bit w) b.0 b.1 b.2)

-- a word with a bit is not 0
pub bit-not-zero : (w k : ℕ) → bit w k ≡ true → w ≢ 0
bit-not-zero w k e z = clash e (ap (λ (x : ℕ). bit x k) z ∙ bit-none k)

-- a bit of a word of n bits lies below n
pub bit_below : (n w k : ℕ) → w < 2 ^ n → bit w k ≡ true → k < n
bit_below n w k l e = go (dec_lt k n)
  where
    go : Dec (k < n) → k < n
    go (yes p) = p
    go (no p) = clash e (bit_past n w k l (omega arith))

-- ---- counts of bits and the lowest bit

bit-zero : (w : ℕ) → bit w 0 ≡ eqb (w % 2) 1
unfolding bit
bit-zero w = rw (div-one w)

bit_half : (w k : ℕ) → bit w (1 + k) ≡ bit (w / 2) k
unfolding bit
bit_half w k = ap (λ (n : ℕ). eqb (n % 2) 1) (sym (shr-shr w 1 k))

half_lt : (n w : ℕ) → w < 2 ^ suc n → w / 2 < 2 ^ n
half_lt n w l = omega arith

pub ones-count : (n w : ℕ) → w < 2 ^ n → ones w ≡ count_below n (bit w)
unfolding count_below ones
ones-count zero w l = ap ones {x = w} {y = 0} (omega arith)
ones-count (suc n) w l =
    ones_step w
    ∙ ap₂ (λ (a b : ℕ). a + b) (sym (one-eqb (w % 2) (omega arith)) ∙ ap one (sym (bit-zero w)))
    (ones-count n (w / 2) (half_lt n w l) ∙ count_same n (bit (w / 2)) (λ k. bit w (1 + k)) (λ k m. sym (bit_half w k)))
    ∙ sym (ap (λ (k : ℕ). count_below k (bit w)) {x = suc n} {y = 1 + n} (omega arith) ∙ count_add 1 n (bit w)
    ∙ ap (λ (m : ℕ). m + count_below n (λ k. bit w (1 + k))) (zero-add (one (bit w 0))))

pub trailing_lowest : (n w : ℕ) → w < 2 ^ n → Lowest (bit w) n (count_trailing_zeros n w)
unfolding count_trailing_zeros
trailing_lowest zero w l = record { within = omega arith; before = λ k m. absurd (omega arith); found = λ m. absurd (omega arith) }
trailing_lowest (suc n) w l = go (w % 2) refl (trailing_lowest n (w / 2) (half_lt n w l))
  where
    below : (t : ℕ) → w % 2 ≡ 0 → Lowest (bit (w / 2)) n t → (k : ℕ) → k < suc t → bit w k ≡ false
    below t e r zero m = bit-zero w ∙ ne_eqb (w % 2) 1 (λ q. omega arith)
    below t e r (suc k) m = ap (bit w) {x = suc k} {y = 1 + k} (omega arith) ∙ bit_half w k ∙ r.before k (omega arith)

    go : (d : ℕ) → w % 2 ≡ d → Lowest (bit (w / 2)) n (count_trailing_zeros n (w / 2)) → Lowest (bit w) (suc n) (under d (count_trailing_zeros n (w / 2)))
    go zero e r =
        record {
          within = omega (arith, r.within);
          before = below (count_trailing_zeros n (w / 2)) e r;
          found = λ m. ap (bit w) {x = suc (count_trailing_zeros n (w / 2))} {y = 1 + count_trailing_zeros n (w / 2)} (omega arith) ∙ bit_half w (count_trailing_zeros n (w / 2)) ∙ r.found (omega arith);
        }
    go (suc d) e r = record { within = omega arith; before = λ k m. absurd (omega arith); found = λ m. bit-zero w ∙ eq-eqb (w % 2) 1 (omega arith) }

pub lowest-bit : (n w : ℕ) → w < 2 ^ n → count_trailing_zeros n w ≡ lowest_below n (bit w)
lowest-bit n w l = lowest-one (bit w) n (count_trailing_zeros n w) (lowest_below n (bit w)) (trailing_lowest n w l) (lowest_found n (bit w))
