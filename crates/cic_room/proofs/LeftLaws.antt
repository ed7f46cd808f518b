-- What the loop over the bits that differ rests on.
use mathlib.Core.Path.{◌≡◌, refl, sym, ap, ap₂, ◌∙◌}
use mathlib.Core.Bool.{Bool, true, false, ◌&&◌, ◌||◌, not}
use mathlib.Core.List.{List}
use Prim.Native.Nat.{ℕ, ◌+◌, ◌*◌, ◌/◌, ◌%◌, ◌^◌, ◌<◌}
use native.Mathlib.Decide.{ℕ_discrete, dec_lt}
use native.Mathlib.Omega.{arith}
use borrow.Author.Tests.{eq-eqb, ne_eqb}
use lib.Dec.{eqb}
use lib.ListN.{get_or, set}
use Rattle.words.specs.Array.{bit_at, with_bit_at}
use Rattle.words.specs.Choice.{pick}
use Rattle.words.specs.Counting.{count_below, lowest_below}
use Rattle.words.specs.Word.{bit, either, without, with_bit}
use Rattle.words.proofs.ArrayLaws.{bit_at_word}
use Rattle.words.proofs.CountingLaws.{lowest_found}
use Rattle.words.proofs.TruthLaws.{clash}
use Rattle.words.proofs.WordLaws.{bit-either, bit-without, bit-with_bit, bit-none, same_word, some-bit}
use Rattle.cic_room.proofs.LoadLaws.{count-one-more}

-- two truth values differ
abbrev pub differs : Bool → Bool → Bool
differs true b = not b
differs false b = b

-- the bits of `left` are those in which two words differ
abbrev pub Left : ℕ → ℕ → ℕ → Type 0
Left left a b = (j : ℕ) → j < 32 → bit left j ≡ differs (bit a j) (bit b j)

-- at first all bits are left in which the words differ
pub left-first : (a b r : ℕ) → r ≡ either (without a b) (without b a) → Left r a b
left-first a b r e j l =
    ap (λ (w : ℕ). bit w j) e ∙ bit-either (without a b) (without b a) j l
    ∙ ap₂ (λ (x y : Bool). x || y) (bit-without a b j l) (bit-without b a j l) ∙ go (bit a j) (bit b j)
  where
    go : (x y : Bool) → ((x && not y) || (y && not x)) ≡ differs x y
    go true true = refl
    go true false = refl
    go false true = refl
    go false false = refl

-- where none is left the two are one
pub left-none : (left a b : ℕ) → a < 2 ^ 32 → b < 2 ^ 32 → left ≡ 0 → Left left a b → a ≡ b
left-none left a b l m e f = same_word 32 a b l m (λ j i. go (bit a j) (bit b j) (sym (f j i) ∙ ap (λ (w : ℕ). bit w j) e ∙ bit-none j))
  where
    go : (x y : Bool) → differs x y ≡ false → x ≡ y
    go true true p = refl
    go true false p = p
    go false true p = sym p
    go false false p = refl

-- the lowest bit of a word that is not 0
pub lowest_in : (w i : ℕ) → w < 2 ^ 32 → (w ≡ 0 → ⊥) → i ≡ lowest_below 32 (bit w) → (i < 32) × (bit w i ≡ true)
lowest_in w i l n e = go (dec_lt i 32)
  where
    go : Dec (i < 32) → (i < 32) × (bit w i ≡ true)
    go (yes m) = (m, ap (bit w) e ∙ (lowest_found 32 (bit w)).found (omega (arith, m, e)))
    go (no m) = let s = some-bit 32 w l n in clash s.2 ((lowest_found 32 (bit w)).before s.0 (omega (arith, m, e, s.1)))

-- the system interrupt is not as the new word says
pub was-not : (ws : List ℕ) (left b k i : ℕ) → i < 32 → Left left (get_or ws k 0) b → bit left i ≡ true → bit_at ws (32 * k + i) ≡ not (bit b i)
was-not ws left b k i l f e = bit_at_word ws k i l ∙ go (bit (get_or ws k 0) i) (bit b i) (sym (f i l) ∙ e)
  where
    go : (x y : Bool) → differs x y ≡ true → x ≡ not y
    go true y p = sym p
    go false true p = refl
    go false false p = p

-- its word after it
pub word-put : (ws ws' : List ℕ) (k i s : ℕ) (t : Bool) → i < 32 → s ≡ 32 * k + i → ws' ≡ with_bit_at ws s t → ws' ≡ set ws k (with_bit (get_or ws k 0) i t)
unfolding with_bit_at
word-put ws ws' k i s t l e f =
    let d : s / 32 ≡ k = omega (arith, e, l) in
    let r : s % 32 ≡ i = omega (arith, e, l) in
    f ∙ ap₂ (λ (x y : ℕ). set ws x (with_bit (get_or ws x 0) y t)) d r

-- one bit less is left
pub left_less : (left a b i : ℕ) → i < 32 → Left left a b → Left (with_bit left i false) (with_bit a i (bit b i)) b
unfolding pick
left_less left a b i l f j m = bit-with_bit left i false j m ∙ go (ℕ_discrete j i) ∙ sym (ap (λ (x : Bool). differs x (bit b j)) (bit-with_bit a i (bit b i) j m))
  where
    none : (x : Bool) → differs x x ≡ false
    none true = refl
    none false = refl

    go : Dec (j ≡ i) → pick (eqb j i) false (bit left j) ≡ differs (pick (eqb j i) (bit b i) (bit a j)) (bit b j)
    go (yes e) =
        ap (λ (x : Bool). pick x false (bit left j)) (eq-eqb j i e)
        ∙ sym (ap (λ (x : Bool). differs (pick x (bit b i) (bit a j)) (bit b j)) (eq-eqb j i e) ∙ ap (λ (x : ℕ). differs (bit b i) (bit b x)) e ∙ none (bit b i))
    go (no e) =
        ap (λ (x : Bool). pick x false (bit left j)) (ne_eqb j i e) ∙ f j m
        ∙ sym (ap (λ (x : Bool). differs (pick x (bit b i) (bit a j)) (bit b j)) (ne_eqb j i e))

-- so the bits that are left get fewer
pub fewer-left : (left i w : ℕ) → i < 32 → bit left i ≡ true → w ≡ with_bit left i false → count_below 32 (bit w) < count_below 32 (bit left)
unfolding pick
fewer-left left i w l e f =
    let c = count-one-more 32 (bit (with_bit left i false)) (bit left) i l
    (bit-with_bit left i false i l ∙ ap (λ (x : Bool). pick x false (bit left i)) (eq-eqb i i refl)) e
    (λ j m n. sym (bit-with_bit left i false j m ∙ ap (λ (x : Bool). pick x false (bit left j)) (ne_eqb j i n))) in
    let g : count_below 32 (bit w) ≡ count_below 32 (bit (with_bit left i false)) = ap (λ (x : ℕ). count_below 32 (bit x)) f in
    omega (arith, c, g)
