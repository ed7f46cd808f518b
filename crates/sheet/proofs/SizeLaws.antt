-- How long the pieces of the page are at most: a number has at most twenty digits, a name of a source at most 24 bytes, each shown as six at most.
use Prim.Native.Nat.{ℕ, ◌+◌, ◌*◌, ◌≤◌, min}
use mathlib.Core.Bool.{◌&&◌}
use mathlib.Core.List.{List, [], ◌∷◌}
use native.Mathlib.Nat.{zero-mul, suc-mul, min-le_left, min-le_right}
use native.Mathlib.Omega.{arith}
use lib.Dec.{eqb, leb}
use lib.ListN.{length, length-append, length-take, take, drop}
use Rattle.words.proofs.ChoiceLaws.{pick_cases}
use Rattle.text.proofs.DigitLaws.{length-decimal, length-hex}
use Rattle.text.specs.Phrases.{bytes, counted}
use Rattle.sheet.specs.Texts.{amount, cell, cell_of, source_cell, empty_cell, each, down}
use Rattle.sheet.specs.Names.{plain, escape, name_of}

-- ---- numbers and cells

pub length-counted : (what : List ℕ) (n : ℕ) → length (counted what n) ≤ length what + 20
unfolding counted
length-counted what n = simp length-append (omega (arith, length-decimal 20 n))

pub length-amount : (n : ℕ) (unit : List ℕ) → length (amount n unit) ≤ length unit + 21
unfolding amount bytes
length-amount n unit = simp length-append (omega (arith, length-decimal 20 n))

pub length-cell : (figure : List ℕ) (n : ℕ) (unit : List ℕ) → length (cell figure n unit) ≤ length figure + length unit + 45
unfolding cell bytes
length-cell figure n unit = simp length-append (omega (arith, length-amount n unit))

pub length-cell_of : (figure : List ℕ) (i : ℕ) → length (cell_of figure i) ≤ length figure + 54
unfolding cell_of bytes
length-cell_of figure i = simp length-append (omega (arith, length-counted (bytes "\" data-source=\"") i))

pub length-source-cell : (figure : List ℕ) (i n : ℕ) (unit : List ℕ) → length (source_cell figure i n unit) ≤ length figure + length unit + 80
unfolding source_cell bytes
length-source-cell figure i n unit = simp length-append (omega (arith, length-cell_of figure i, length-amount n unit))

pub length-empty-cell : (figure : List ℕ) (i : ℕ) → length (empty_cell figure i) ≤ length figure + 60
unfolding empty_cell bytes
length-empty-cell figure i = simp length-append (omega (arith, length-cell_of figure i))

-- ---- one after the other

pub length-each : (f : ℕ → List ℕ) (k : ℕ) → ((i : ℕ) → length (f i) ≤ k) → (is : List ℕ) → length (each f is) ≤ length is * k
unfolding each
length-each f k h [] = omega (arith, zero-mul k)
length-each f k h (i ∷ is) = simp length-append (omega (arith, h i, length-each f k h is, suc-mul (length is) k))

pub length_eight : (f : ℕ → List ℕ) (k : ℕ) → ((l : ℕ) → length (f l) ≤ k) → length (down f 8) ≤ 8 * k
unfolding down
length_eight f k h = simp length-append (omega (arith, h 0, h 1, h 2, h 3, h 4, h 5, h 6, h 7))

-- ---- names

length-plain : (b : ℕ) → length (plain b) ≤ 6
unfolding plain bytes
length-plain b =
    pick_cases (λ (l : List ℕ). length l ≤ 6) (leb 32 b && leb b 126) (λ e. omega arith) (λ e. simp length-append (omega (arith, length-hex 2 b)))

pub length-escape : (b : ℕ) → length (escape b) ≤ 6
unfolding escape bytes
length-escape b =
    pick_cases (λ (l : List ℕ). length l ≤ 6) (eqb b 38) (λ e. omega arith)
    (λ e. pick_cases (λ (l : List ℕ). length l ≤ 6) (eqb b 60) (λ e. omega arith)
    (λ e. pick_cases (λ (l : List ℕ). length l ≤ 6) (eqb b 62) (λ e. omega arith)
    (λ e. pick_cases (λ (l : List ℕ). length l ≤ 6) (eqb b 34) (λ e. omega arith)
    (λ e. pick_cases (λ (l : List ℕ). length l ≤ 6) (eqb b 92) (λ e. omega arith) (λ e. length-plain b)))))

pub length-escaped : (name : List ℕ) → length (each escape name) ≤ length name * 6
length-escaped name = length-each escape 6 length-escape name

pub length-name : (names : List ℕ) (k i : ℕ) → length (each escape (name_of names k i)) ≤ 144
unfolding name_of
length-name names k i =
    omega (
      arith,
      length-escaped (take (min k 24) (drop (24 * i) names)),
      length-take (min k 24) (drop (24 * i) names),
      min-le_left (min k 24) (length (drop (24 * i) names)),
      min-le_right k 24,
    )
