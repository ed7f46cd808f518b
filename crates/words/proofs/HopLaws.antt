-- From one set bit of a word to the next: the lowest is taken, then cleared.
use Prim.Native.Nat.{ℕ, ◌-◌, ◌^◌, ◌<◌}
use mathlib.Core.Path.{◌≡◌, refl, ap, ◌∙◌}
use mathlib.Core.Bool.{Bool, true, false, not, ◌&&◌, and-true, and-false}
use mathlib.Core.Logic.{◌≢◌}
use native.Mathlib.Decide.{dec_lt}
use native.Mathlib.Omega.{arith}
use borrow.Author.Tests.{eq-eqb, ne_eqb}
use Rattle.words.specs.Counting.{lowest_below}
use Rattle.words.specs.Word.{bit, with_bit}
use Rattle.words.proofs.CountingLaws.{lowest_found}
use Rattle.words.proofs.TruthLaws.{clash}
use Rattle.words.proofs.WordLaws.{bit-cleared, some-bit}

-- the lowest bit of a word that is not 0 is one of the 32, and set
pub lowest_in : (w i : ℕ) → w < 2 ^ 32 → w ≢ 0 → i ≡ lowest_below 32 (bit w) → (i < 32) × (bit w i ≡ true)
lowest_in w i l n e = go (dec_lt i 32)
  where
    go : Dec (i < 32) → (i < 32) × (bit w i ≡ true)
    go (yes m) = (m, ap (bit w) e ∙ (lowest_found 32 (bit w)).found (omega (arith, m, e)))
    go (no m) = let s = some-bit 32 w l n in clash s.2 ((lowest_found 32 (bit w)).before s.0 (omega (arith, m, e, s.1)))

-- no bit before it is set
pub lowest-before : (w i : ℕ) → i ≡ lowest_below 32 (bit w) → (j : ℕ) → j < i → bit w j ≡ false
lowest-before w i e j l = (lowest_found 32 (bit w)).before j (omega (arith, e))

-- once it is cleared it is not set either, and every other bit is as it was
pub hop_here : (w i : ℕ) → i < 32 → bit (with_bit w i false) i ≡ false
hop_here w i l = bit-cleared w i i l ∙ ap (λ (t : Bool). bit w i && not t) (eq-eqb i i refl) ∙ and-false (bit w i)

pub hop-other : (w i j : ℕ) → j < 32 → j ≢ i → bit (with_bit w i false) j ≡ bit w j
hop-other w i j l n = bit-cleared w i j l ∙ ap (λ (t : Bool). bit w j && not t) (ne_eqb j i n) ∙ and-true (bit w j)

-- so the next one is higher: what falls as a loop goes on
pub hop_less : (w i : ℕ) → w < 2 ^ 32 → w ≢ 0 → i ≡ lowest_below 32 (bit w) → 32 - lowest_below 32 (bit (with_bit w i false)) < 32 - lowest_below 32 (bit w)
hop_less w i l n e = go (dec_lt i r)
  where
    r : ℕ
    r = lowest_below 32 (bit (with_bit w i false))

    m : i < 32
    m = (lowest_in w i l n e).0

    go : Dec (i < r) → 32 - r < 32 - lowest_below 32 (bit w)
    go (yes q) = omega (arith, m, e)
    go (no q) = clash ((lowest_found 32 (bit (with_bit w i false))).found (omega (arith, m))) (none (dec_lt r i))
      where
        none : Dec (r < i) → bit (with_bit w i false) r ≡ false
        none (yes p) = hop-other w i r (omega (arith, m)) (λ x. omega arith) ∙ lowest-before w i e r p
        none (no p) = let x : r ≡ i = omega arith in ap (bit (with_bit w i false)) x ∙ hop_here w i m
