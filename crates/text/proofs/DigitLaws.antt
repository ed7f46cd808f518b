-- Hexadecimal and decimal digits, one at a time, and how many there are.
use Prim.Native.Nat.{ℕ, zero, suc, ◌+◌, ◌-◌, ◌*◌, ◌/◌, ◌%◌, ◌^◌, ◌<◌, ◌≤◌}
use mathlib.Core.Path.{◌≡◌, refl, sym, ap, ◌∙◌}
use mathlib.Core.Bool.{Bool, true}
use mathlib.Core.List.{List, [], ◌∷◌, ◌++◌}
use native.Mathlib.Nat.{div-div-eq-div-mul, pow-succ', div-one}
use native.Mathlib.Decide.{dec_lt}
use native.Mathlib.Numerals.{sub-one}
use native.Mathlib.Omega.{arith}
use lib.ListN.{length, get_or, length-append, get_or-append}
use lib.Seq.{get_or-append-add}
use lib.Dec.{eqb, ltb}
use borrow.Author.Tests.{eqb-true, lt-ltb, le-ltb, ltb-true, ltb-false}
use Rattle.words.specs.Choice.{pick}
use Rattle.words.specs.Counting.{all_below}
use Rattle.words.proofs.CountingLaws.{all_at}
use Rattle.words.proofs.ChoiceLaws.{pick_true, pick-false, pick_cases}
use Rattle.text.specs.Text.{hex_of, hex_digit, decimal_of, last_of, field}
use Rattle.text.specs.Promises.{worth_after}

-- ---- one digit at a time, as the code goes

-- eight digits in a row
pub hex-row : (v : ℕ)
    → hex_digit (v / 268435456 % 16) ∷ hex_digit (v / 16777216 % 16) ∷ hex_digit (v / 1048576 % 16) ∷ hex_digit (v / 65536 % 16) ∷ hex_digit (v / 4096 % 16)
    ∷ hex_digit (v / 256 % 16) ∷ hex_digit (v / 16 % 16) ∷ hex_digit (v % 16) ∷ []
    ≡ hex_of 8 v
unfolding hex_of
hex-row v =
    let b : v / 16 / 16 ≡ v / 256 = omega arith in
    let c : v / 256 / 16 ≡ v / 4096 = omega arith in
    let d : v / 4096 / 16 ≡ v / 65536 = omega arith in
    let e : v / 65536 / 16 ≡ v / 1048576 = omega arith in
    let f : v / 1048576 / 16 ≡ v / 16777216 = omega arith in
    let g : v / 16777216 / 16 ≡ v / 268435456 = omega arith in
    rw (b, c, d, e, f, g)

pub decimal-none : (k n : ℕ) → k ≡ 0 → [] ≡ decimal_of k n
unfolding decimal_of
decimal-none zero n e = refl
decimal-none (suc k) n e = absurd (omega arith)

pub decimal_last : (k n : ℕ) → (k ≡ 0 → ⊥) → n < 10 → (48 + n % 10) ∷ [] ≡ decimal_of k n
unfolding decimal_of
decimal_last zero n h l = absurd (h refl)
decimal_last (suc k) n h l = pick_true (decimal_of k (n / 10) ++ ((48 + n % 10) ∷ [])) (lt-ltb n 10 l)

pub decimal-more : (k n : ℕ) → (k ≡ 0 → ⊥) → 10 ≤ n → decimal_of (k - 1) (n / 10) ++ ((48 + n % 10) ∷ []) ≡ decimal_of k n
unfolding decimal_of
decimal-more zero n h l = absurd (h refl)
decimal-more (suc k) n h l = rw sub-one (pick-false ((48 + n % 10) ∷ []) (le-ltb n 10 l))

-- ---- a ladder of decimals

pub last_one : (n : ℕ) → (48 + n % 10) ∷ [] ≡ last_of 1 n
unfolding last_of
last_one n = refl

-- a digit more
pub last_more : (k n : ℕ) → last_of k (n / 10) ++ last_of 1 n ≡ last_of (suc k) n
unfolding last_of
last_more k n = refl

-- a number of one digit
pub last-single : (m n : ℕ) → n < 10 → last_of 1 n ≡ decimal_of (suc m) n
unfolding last_of decimal_of
last-single m n l = pick_true (decimal_of m (n / 10) ++ ((48 + n % 10) ∷ [])) (lt-ltb n 10 l)

-- a number of k + 1 digits has no others
pub last-all : (k m n : ℕ) → k ≤ m → 10 ^ k ≤ n → n < 10 ^ (suc k) → last_of (suc k) n ≡ decimal_of (suc m) n
unfolding last_of decimal_of
last-all zero m n h l u = last-single m n (omega arith)
last-all (suc k) zero n h l u = absurd (omega arith)
last-all (suc k) (suc m) n h l u =
    let r : last_of (suc k) (n / 10) ≡ decimal_of (suc m) (n / 10) = last-all k m (n / 10) (omega arith) (omega arith) (omega arith) in
    ap (λ (x : List ℕ). x ++ ((48 + n % 10) ∷ [])) r ∙ pick-false ((48 + n % 10) ∷ []) (le-ltb n 10 (omega arith))

-- ---- how many digits

pub length-hex : (k v : ℕ) → length (hex_of k v) ≡ k
unfolding hex_of
length-hex zero v = refl
length-hex (suc k) v =
    let h : length (hex_of k (v / 16)) ≡ k = length-hex k (v / 16) in
    simp length-append (omega arith)

pub length-decimal : (k n : ℕ) → length (decimal_of k n) ≤ k
unfolding decimal_of
length-decimal zero n = omega arith
length-decimal (suc k) n =
    let h : length (decimal_of k (n / 10)) ≤ k = length-decimal k (n / 10) in
    pick_cases (λ (l : List ℕ). length l ≤ suc k) (ltb n 10) (λ e. omega arith) (λ e. simp length-append (omega arith))

-- a number below 10 ^ m has at most m digits
pub length-below : (k m n : ℕ) → 0 < m → n < 10 ^ m → length (decimal_of k n) ≤ m
unfolding decimal_of
length-below zero m n p l = omega arith
length-below (suc k) zero n p l = absurd (omega arith)
length-below (suc k) (suc zero) n p l =
    pick_cases (λ (x : List ℕ). length x ≤ 1) (ltb n 10) (λ e. omega arith) (λ e. absurd (omega (arith, ltb-false n 10 e)))
length-below (suc k) (suc (suc m)) n p l =
    let h : length (decimal_of k (n / 10)) ≤ suc m = length-below k (suc m) (n / 10) (omega arith) (omega arith) in
    pick_cases (λ (x : List ℕ). length x ≤ suc (suc m)) (ltb n 10) (λ e. omega arith) (λ e. simp length-append (omega arith))

pub length-field : (n : ℕ) → length (field n) ≤ 21
unfolding field
length-field n = omega (arith, length-decimal 20 n)

-- ---- which digits

-- the rule of the sixteen is one test of all, computed one by one
abbrev digits : List ℕ
digits = 48 ∷ 49 ∷ 50 ∷ 51 ∷ 52 ∷ 53 ∷ 54 ∷ 55 ∷ 56 ∷ 57 ∷ 65 ∷ 66 ∷ 67 ∷ 68 ∷ 69 ∷ 70 ∷ []

abbrev right : ℕ → Bool
right d = eqb (get_or digits d 0) (hex_digit d)

rule : all_below 16 right ≡ true
unfolding all_below hex_digit pick
rule = refl

pub digit_listed : (d : ℕ) → d < 16 → get_or digits d 0 ≡ hex_digit d
digit_listed d l = eqb-true (get_or digits d 0) (hex_digit d) (all_at 16 right rule d l)

pub hex-nth : (p v k : ℕ) → k < p → get_or (hex_of p v) k 0 ≡ hex_digit (v / 16 ^ (p - 1 - k) % 16)
unfolding hex_of
hex-nth zero v k l = absurd (omega arith)
hex-nth (suc p) v k l = go (dec_lt k p) (hex-nth p (v / 16) k)
  where
    e : length (hex_of p (v / 16)) ≡ p
    e = length-hex p (v / 16)

    go : Dec (k < p) → (k < p → get_or (hex_of p (v / 16)) k 0 ≡ hex_digit (v / 16 / 16 ^ (p - 1 - k) % 16)) → get_or (hex_of p (v / 16) ++ (hex_digit (v % 16) ∷ [])) k 0 ≡ hex_digit (v / 16 ^ (suc p - 1 - k) % 16)
    go (yes m) rest =
        let q : suc p - 1 - k ≡ suc (p - 1 - k) = omega arith in
        get_or-append (hex_of p (v / 16)) (hex_digit (v % 16) ∷ []) 0 k (omega (arith, e)) ∙ rest m
        ∙ ap (λ (x : ℕ). hex_digit (x % 16)) (div-div-eq-div-mul v 16 (16 ^ (p - 1 - k)) ∙ ap (λ (x : ℕ). v / x) (sym (pow-succ' 16 (p - 1 - k)) ∙ ap (λ (x : ℕ). 16 ^ x) (sym q)))
    go (no m) rest =
        let q : k ≡ length (hex_of p (v / 16)) + 0 = omega (arith, e) in
        let z : suc p - 1 - k ≡ 0 = omega arith in
        ap (λ (x : ℕ). get_or (hex_of p (v / 16) ++ (hex_digit (v % 16) ∷ [])) x 0) q ∙ get_or-append-add (hex_of p (v / 16)) (hex_digit (v % 16) ∷ []) 0 0
        ∙ ap (λ (x : ℕ). hex_digit (x % 16)) (sym (div-one v) ∙ ap (λ (x : ℕ). v / 16 ^ x) (sym z))

-- every byte is a digit from 0 to 9
abbrev Digits : List ℕ → Type 0
Digits l = (k : ℕ) → k < length l → (48 ≤ get_or l k 0) × (get_or l k 0 ≤ 57)

digits_snoc : (l : List ℕ) (n : ℕ) → Digits l → Digits (l ++ ((48 + n % 10) ∷ []))
digits_snoc l n h k m = go (dec_lt k (length l))
  where
    go : Dec (k < length l) → (48 ≤ get_or (l ++ ((48 + n % 10) ∷ [])) k 0) × (get_or (l ++ ((48 + n % 10) ∷ [])) k 0 ≤ 57)
    go (yes q) = rw (get_or-append l ((48 + n % 10) ∷ []) 0 k q) (h k q)
    go (no q) =
        let e : k ≡ length l + 0 = omega (arith, length-append l ((48 + n % 10) ∷ [])) in
        rw (e, get_or-append-add l ((48 + n % 10) ∷ []) 0 0) (omega arith, omega arith)

pub decimal-digits : (k n : ℕ) → Digits (decimal_of k n)
unfolding decimal_of
decimal-digits zero n = λ k l. absurd (omega arith)
decimal-digits (suc k) n =
    pick_cases Digits (ltb n 10) (λ e. digits_snoc [] n (λ j l. absurd (omega arith))) (λ e. digits_snoc (decimal_of k (n / 10)) n (decimal-digits k (n / 10)))

-- one digit more
worth_snoc : (v : ℕ) (a : List ℕ) (b : ℕ) → worth_after v (a ++ (b ∷ [])) ≡ 10 * worth_after v a + (b - 48)
unfolding worth_after
worth_snoc v [] b = refl
worth_snoc v (x ∷ a) b = worth_snoc (10 * v + (x - 48)) a b

pub decimal-worth : (k n : ℕ) → n < 10 ^ k → worth_after 0 (decimal_of k n) ≡ n
unfolding decimal_of worth_after
decimal-worth zero n l = omega arith
decimal-worth (suc k) n l =
    pick_cases (λ (x : List ℕ). worth_after 0 x ≡ n) (ltb n 10) (λ e. omega (arith, ltb-true n 10 e))
    (λ e. worth_snoc 0 (decimal_of k (n / 10)) (48 + n % 10) ∙ omega (arith, decimal-worth k (n / 10) (omega arith)))

some-digit : (k n : ℕ) → 0 < length (decimal_of (suc k) n)
unfolding decimal_of
some-digit k n = pick_cases (λ (x : List ℕ). 0 < length x) (ltb n 10) (λ e. omega arith) (λ e. simp length-append (omega arith))

pub decimal-first : (k n : ℕ) → n < 10 ^ k → get_or (decimal_of k n) 0 0 ≡ 48 → n ≡ 0
unfolding decimal_of
decimal-first zero n l = λ e. omega arith
decimal-first (suc zero) n l = pick_cases (λ (x : List ℕ). get_or x 0 0 ≡ 48 → n ≡ 0) (ltb n 10) (λ t e. omega (arith, ltb-true n 10 t)) (λ t e. absurd (omega (arith, ltb-false n 10 t)))
decimal-first (suc (suc k)) n l =
    pick_cases (λ (x : List ℕ). get_or x 0 0 ≡ 48 → n ≡ 0) (ltb n 10) (λ t e. omega (arith, ltb-true n 10 t))
    (λ t e.
    let z : n / 10 ≡ 0 = decimal-first (suc k) (n / 10) (omega arith) (sym (get_or-append (decimal_of (suc k) (n / 10)) ((48 + n % 10) ∷ []) 0 0 (some-digit k (n / 10))) ∙ e) in
    absurd (omega (arith, ltb-false n 10 t)))
