-- Numbers of one byte and of two.
use Prim.Native.Nat.{ℕ, ◌+◌, ◌-◌, ◌*◌, ◌%◌, ◌≤◌, ◌<◌}
use mathlib.Core.Path.{◌≡◌, refl, sym, ap, ◌∙◌}
use mathlib.Core.List.{List}
use native.Mathlib.Omega.{arith}
use borrow.Author.Tests.{lt-ltb, le-ltb}
use lib.Dec.{ltb}
use lib.ListN.{length, get_or}
use Rattle.numbers.specs.Number.{Value, group, size_at, worth_at, number_at}
use Rattle.numbers.proofs.NumberLaws.{Good, not-faulty, size_found, worth-none, worth-turn, read}

-- a number in which nothing is wrong is read
good-read : (s : List ℕ) (at n v : ℕ) → n ≡ size_at s at → v ≡ worth_at s at n → Good s at n v → number_at s at ≡ Value v (at + n)
good-read s at n v e f g = sym (read s at n v (e, f) (not-faulty s at n v g))

first : (s : List ℕ) (at : ℕ) → get_or s (at + 0) 0 ≡ get_or s at 0
first s at = let e : at + 0 ≡ at = omega arith in ap (λ (i : ℕ). get_or s i 0) e

worth-one : (s : List ℕ) (at : ℕ) → get_or s at 0 % 128 ≡ worth_at s at 1
worth-one s at =
    let w = worth-turn s at 0 {w = 0} {u = 1} {g = get_or s at 0 % 128} (worth-none s at) refl (ap group (sym (first s at))) in
    let e : get_or s at 0 % 128 ≡ 0 + get_or s at 0 % 128 * 1 = omega arith in
    e ∙ w

-- one byte, with its top bit clear
pub one_byte : (s : List ℕ) (at a : ℕ) → a ≡ get_or s at 0 → at < length s → a < 128 → number_at s at ≡ Value a (at + 1)
one_byte s at a q l m =
    let d : get_or s at 0 < 128 = omega (arith, q, m) in
    good-read s at 1 a (size_found s at 0 (omega arith) (λ j i. absurd (omega arith)) (lt-ltb (get_or s (at + 0) 0) 128 (omega (arith, first s at, d))))
    (omega (arith, worth-one s at, q, m))
    (record { within = omega arith; fits = omega (arith, m); short = omega arith })

-- two bytes, the top bit set in the first alone; the second may be 0 (02, 1/12)
pub two_bytes : (s : List ℕ) (at a b : ℕ) → a ≡ get_or s at 0 → b ≡ get_or s (at + 1) 0 → 2 ≤ length s - at → 128 ≤ a → a < 256 → b < 128
    → number_at s at ≡ Value (a - 128 + 128 * b) (at + 2)
two_bytes s at a b q r l m n p =
    let c : 128 ≤ get_or s at 0 = omega (arith, q, m) in
    let d : get_or s (at + 1) 0 < 128 = omega (arith, r, p) in
    let w = worth-turn s at 1 {w = get_or s at 0 % 128} {u = 128} {g = get_or s (at + 1) 0 % 128} (worth-one s at) refl refl in
    good-read s at 2 (a - 128 + 128 * b)
    (size_found s at 1 (omega arith)
    (λ j i.
    let z : j ≡ 0 = omega (arith, i) in
    ap (λ (k : ℕ). ltb (get_or s (at + k) 0) 128) z ∙ le-ltb (get_or s (at + 0) 0) 128 (omega (arith, first s at, c))) (lt-ltb (get_or s (at + 1) 0) 128 d))
    (omega (arith, w, q, r, m, n, p))
    (record { within = omega (arith, l); fits = omega (arith, n, p); short = omega arith })
