-- Words that hold what is set and enabled, and four system interrupts taken out of them.
use mathlib.Core.Path.{◌≡◌, refl, sym, ap, ap₂, ◌∙◌}
use mathlib.Core.Bool.{Bool, true, false, ◌&&◌, not, and-false, and-true}
use mathlib.Core.List.{List}
use Prim.Native.Nat.{ℕ, ◌+◌, ◌*◌, ◌/◌, ◌%◌, ◌<◌}
use native.Mathlib.Decide.{ℕ_discrete}
use native.Mathlib.Nat.{mod-lt}
use native.Mathlib.Omega.{arith}
use borrow.Author.Tests.{eq-eqb, ne_eqb}
use lib.Dec.{eqb}
use lib.ListN.{length, get_or, set}
use lib.Seq.{get_or-set_same, get_or-set_other}
use Rattle.words.specs.Array.{bit_at}
use Rattle.words.specs.Word.{bit, both, with_bit}
use Rattle.words.proofs.ArrayLaws.{bit_at_word}
use Rattle.words.proofs.TruthLaws.{eqb_iff}
use Rattle.words.proofs.WordLaws.{bit-both, bit-cleared}

-- words that hold what is set and enabled
pub words-active : (status enable ws : List ℕ) → ((i : ℕ) → i < 32 → get_or ws i 0 ≡ both (get_or status i 0) (get_or enable i 0))
    → (s : ℕ) → s < 1024 → bit_at ws s ≡ (bit_at status s && bit_at enable s)
words-active status enable ws h s l =
    let e : 32 * (s / 32) + s % 32 ≡ s = omega arith in
    let m : s % 32 < 32 = mod-lt s (omega arith) in
    ap (bit_at ws) (sym e) ∙ bit_at_word ws (s / 32) (s % 32) m ∙ ap (λ (w : ℕ). bit w (s % 32)) (h (s / 32) (omega (arith, l)))
    ∙ bit-both (get_or status (s / 32) 0) (get_or enable (s / 32) 0) (s % 32) m
    ∙ ap₂ (λ (x y : Bool). x && y) (sym (bit_at_word status (s / 32) (s % 32) m) ∙ ap (bit_at status) e) (sym (bit_at_word enable (s / 32) (s % 32) m) ∙ ap (bit_at enable) e)

-- ---- four system interrupts

-- each of the four bits is dropped, and no other
pub four_dropped : (w q w1 w2 w3 w4 : ℕ) → w1 ≡ with_bit w (4 * q) false → w2 ≡ with_bit w1 (4 * q + 1) false → w3 ≡ with_bit w2 (4 * q + 2) false → w4 ≡ with_bit w3 (4 * q + 3) false
    → (j : ℕ) → j < 32 → bit w4 j ≡ (bit w j && not (eqb (j / 4) q))
four_dropped w q w1 w2 w3 w4 e f g i j l =
    less w4 w3 (4 * q + 3) i ∙ ap (λ (b : Bool). b && not (eqb j (4 * q + 3))) (less w3 w2 (4 * q + 2) g)
    ∙ ap (λ (b : Bool). (b && not (eqb j (4 * q + 2))) && not (eqb j (4 * q + 3))) (less w2 w1 (4 * q + 1) f)
    ∙ ap (λ (b : Bool). ((b && not (eqb j (4 * q + 1))) && not (eqb j (4 * q + 2))) && not (eqb j (4 * q + 3))) (less w1 w (4 * q) e)
    ∙ go (bit w j) (ℕ_discrete (j / 4) q)
  where
    less : (x y n : ℕ) → x ≡ with_bit y n false → bit x j ≡ (bit y j && not (eqb j n))
    less x y n p = ap (λ (z : ℕ). bit z j) p ∙ bit-cleared y n j l

    stays : (b : Bool) {x y z u v : Bool} → x ≡ false → y ≡ false → z ≡ false → u ≡ false → v ≡ false → ((((b && not x) && not y) && not z) && not u) ≡ (b && not v)
    stays true p q r s t = rw (p, q, r, s, t) refl
    stays false p q r s t = refl

    -- bit j is one of the four
    goes : (b : Bool) → j / 4 ≡ q → Dec (j ≡ 4 * q) → Dec (j ≡ 4 * q + 1) → Dec (j ≡ 4 * q + 2)
        → ((((b && not (eqb j (4 * q))) && not (eqb j (4 * q + 1))) && not (eqb j (4 * q + 2))) && not (eqb j (4 * q + 3))) ≡ false
    goes b d (yes p) _ _ =
        ap (λ (t : Bool). (((b && not t) && not (eqb j (4 * q + 1))) && not (eqb j (4 * q + 2))) && not (eqb j (4 * q + 3))) (eq-eqb j (4 * q) p)
        ∙ ap (λ (t : Bool). ((t && not (eqb j (4 * q + 1))) && not (eqb j (4 * q + 2))) && not (eqb j (4 * q + 3))) (and-false b)
    goes b d (no _) (yes p) _ =
        ap (λ (t : Bool). (((b && not (eqb j (4 * q))) && not t) && not (eqb j (4 * q + 2))) && not (eqb j (4 * q + 3))) (eq-eqb j (4 * q + 1) p)
        ∙ ap (λ (t : Bool). (t && not (eqb j (4 * q + 2))) && not (eqb j (4 * q + 3))) (and-false (b && not (eqb j (4 * q))))
    goes b d (no _) (no _) (yes p) =
        ap (λ (t : Bool). (((b && not (eqb j (4 * q))) && not (eqb j (4 * q + 1))) && not t) && not (eqb j (4 * q + 3))) (eq-eqb j (4 * q + 2) p)
        ∙ ap (λ (t : Bool). t && not (eqb j (4 * q + 3))) (and-false ((b && not (eqb j (4 * q))) && not (eqb j (4 * q + 1))))
    goes b d (no m) (no n) (no o) =
        ap (λ (t : Bool). (((b && not (eqb j (4 * q))) && not (eqb j (4 * q + 1))) && not (eqb j (4 * q + 2))) && not t) (eq-eqb j (4 * q + 3) (omega (arith, d, m, n, o)))
        ∙ and-false (((b && not (eqb j (4 * q))) && not (eqb j (4 * q + 1))) && not (eqb j (4 * q + 2)))

    go : (b : Bool) → Dec (j / 4 ≡ q)
        → ((((b && not (eqb j (4 * q))) && not (eqb j (4 * q + 1))) && not (eqb j (4 * q + 2))) && not (eqb j (4 * q + 3))) ≡ (b && not (eqb (j / 4) q))
    go b (yes d) =
        goes b d (ℕ_discrete j (4 * q)) (ℕ_discrete j (4 * q + 1)) (ℕ_discrete j (4 * q + 2))
        ∙ sym (ap (λ (t : Bool). b && not t) (eq-eqb (j / 4) q d) ∙ and-false b)
    go b (no d) =
        stays b (ne_eqb j (4 * q) (λ p. d (omega (arith, p)))) (ne_eqb j (4 * q + 1) (λ p. d (omega (arith, p)))) (ne_eqb j (4 * q + 2) (λ p. d (omega (arith, p))))
        (ne_eqb j (4 * q + 3) (λ p. d (omega (arith, p)))) (ne_eqb (j / 4) q d)

-- the word of the four is put anew, and no other
pub four_out : (ws ws' : List ℕ) (k new : ℕ) → length ws ≡ 32 → k < 256 → ws' ≡ set ws (k / 8) new → ((j : ℕ) → j < 32 → bit new j ≡ (bit (get_or ws (k / 8) 0) j && not (eqb (j / 4) (k % 8))))
    → (s : ℕ) → s < 1024 → bit_at ws' s ≡ (bit_at ws s && not (eqb (s / 4) k))
four_out ws ws' k new n l e f s m = go (ℕ_discrete (s / 32) (k / 8))
  where
    whole : 32 * (s / 32) + s % 32 ≡ s
    whole = omega arith

    low : s % 32 < 32
    low = mod-lt s (omega arith)

    split : (v : List ℕ) → bit_at v s ≡ bit (get_or v (s / 32) 0) (s % 32)
    split v = ap (bit_at v) (sym whole) ∙ bit_at_word v (s / 32) (s % 32) low

    go : Dec (s / 32 ≡ k / 8) → bit_at ws' s ≡ (bit_at ws s && not (eqb (s / 4) k))
    go (yes p) =
        split ws' ∙ ap (λ (v : List ℕ). bit (get_or v (s / 32) 0) (s % 32)) e ∙ ap (λ (i : ℕ). bit (get_or (set ws (k / 8) new) i 0) (s % 32)) p
        ∙ ap (λ (w : ℕ). bit w (s % 32)) (get_or-set_same ws (k / 8) new 0 (omega (arith, n, l))) ∙ f (s % 32) low
        ∙ ap₂ (λ (b t : Bool). b && not t) (ap (λ (i : ℕ). bit (get_or ws i 0) (s % 32)) (sym p) ∙ sym (split ws))
        (eqb_iff (s % 32 / 4) (k % 8) (s / 4) k (λ q. omega (arith, p, q)) (λ q. omega (arith, p, q)))
    go (no p) =
        split ws' ∙ ap (λ (v : List ℕ). bit (get_or v (s / 32) 0) (s % 32)) e ∙ ap (λ (w : ℕ). bit w (s % 32)) (get_or-set_other ws (k / 8) (s / 32) new 0 p) ∙ sym (split ws)
        ∙ sym (ap (λ (t : Bool). bit_at ws s && not t) (ne_eqb (s / 4) k (λ q. p (omega (arith, q)))) ∙ and-true (bit_at ws s))
