-- The first of some inputs by the bits of their priorities: those are kept whose next bit is 0, if there are any.
use Prim.Native.Nat.{ℕ, zero, suc, ◌+◌, ◌-◌, ◌*◌, ◌/◌, ◌%◌, ◌^◌, ◌≤◌, ◌<◌}
use mathlib.Core.Path.{◌≡◌, refl, sym, ap, ap₂, ◌∙◌}
use mathlib.Core.Bool.{Bool, true, false, not, ◌&&◌, ◌||◌}
use mathlib.Core.List.{List, [], ◌∷◌}
use mathlib.Core.Logic.{◌≢◌, ◌⊎◌, inl, inr}
use native.Mathlib.Decide.{dec_lt, ℕ_discrete}
use native.Mathlib.Nat.{le-div_iff_mul-le, div-lt_iff_lt-mul, pow-suc}
use native.Mathlib.Omega.{arith}
use borrow.Author.Tests.{eq-eqb, ne_eqb}
use lib.Bits.{bit_and}
use lib.Count.{count_leading_zeros, leading_top}
use lib.Dec.{eqb}
use lib.ListN.{get_or}
use lib.Pow.{pow_pos, shr-shr}
use Rattle.words.specs.Array.{bit_at}
use Rattle.words.specs.Counting.{one, any_below}
use Rattle.words.specs.Word.{bit, word_of, either, both, without}
use Rattle.words.proofs.CountingLaws.{any_some, some_any, any_fails, any_none}
use Rattle.words.proofs.TruthLaws.{and_left, and_right, and_both, or_left, or_right, or_neither, clash, told}
use Rattle.words.proofs.WordLaws.{bit_mod, bit-word_of, word_of-same, bit-and, bit_not, bit-either, bit_past, bit-none, either_lt, some-bit}
use Rattle.aintc_record.specs.declared.Aintc.{Aintc}
use Rattle.aintc_record.specs.Route.{route_of, priority}
use Rattle.aintc_record.proofs.RecordLaws.{priority-fits}
use Rattle.aintc_registers.specs.Inputs.{open_word, pending_word}
use Rattle.aintc_registers.specs.Search.{route_word}
use Rattle.aintc_registers.proofs.InputLaws.{open-from, pending-from}
use Rattle.aintc_registers.proofs.Promises as choice-promises
use Rattle.aintc_room.specs.Room.{Laid}
use Rattle.aintc_room.proofs.CellLaws.{lines-is, soft-is, masks-is, fiqs-is}
use Rattle.aintc_room.proofs.Promises.{priority-bit}
use Rattle.aintc_room.specs.First.{held, halves, SomeOf, FirstOf, HighestOf}

-- ---- the words of what is pending

pub open_in : {a : Aintc} {room : List ℕ} → Laid a room → (n j r : ℕ) → n < 4 → j ≡ either (get_or room (16 + n) 0) (get_or room (20 + n) 0) → r ≡ without j (get_or room (24 + n) 0) → r ≡ open_word a n
open_in {a} {room} h n j r l ej er = open-from a n _ _ _ j r (lines-is h n l) (soft-is h n l) ej (masks-is h n l) er

-- what asks for FIQ does not ask for IRQ
not-fiq : (x : ℕ) → not (eqb (x % 2) 1) ≡ eqb (x % 2) 0
not-fiq x = go (ℕ_discrete (x % 2) 1)
  where
    go : Dec (x % 2 ≡ 1) → not (eqb (x % 2) 1) ≡ eqb (x % 2) 0
    go (yes e) = ap not (eq-eqb (x % 2) 1 e) ∙ sym (ne_eqb (x % 2) 0 (omega (arith, e)))
    go (no d) = ap not (ne_eqb (x % 2) 1 d) ∙ sym (eq-eqb (x % 2) 0 (omega (arith, d)))

without_fiqs : (routes : List ℕ) (base o : ℕ) → without o (route_word routes base 1) ≡ both o (route_word routes base 0)
unfolding without both route_word
without_fiqs routes base o =
    word_of-same 32 (λ k. bit o k && not (bit (word_of 32 (λ i. eqb (route_of (get_or routes (base + i) 0)) 1)) k)) (λ k. bit o k && bit (word_of 32 (λ i. eqb (route_of (get_or routes (base + i) 0)) 0)) k)
    (λ k l. ap (λ (t : Bool). bit o k && t)
    (ap not (bit-word_of 32 (λ i. eqb (route_of (get_or routes (base + i) 0)) 1) k l) ∙ not-fiq (get_or routes (base + k) 0) ∙ sym (bit-word_of 32 (λ i. eqb (route_of (get_or routes (base + i) 0)) 0) k l)))

module _ {a : Aintc} {room : List ℕ} (h : Laid a room) (n o r : ℕ) (l : n < 4) (eo : o ≡ open_word a n) where
  pub pending-fast : (f : Bool) → f ≡ true → r ≡ both o (get_or room (28 + n) 0) → r ≡ pending_word a f n
  pending-fast f e er = pending-from a f n 1 o _ r (sym (ap one e)) eo refl (er ∙ ap (both o) (fiqs-is h n l))

  pub pending_slow : (f : Bool) → f ≡ false → r ≡ without o (get_or room (28 + n) 0) → r ≡ pending_word a f n
  pending_slow f e er = pending-from a f n 0 o _ r (sym (ap one e)) eo refl (er ∙ ap (without o) (fiqs-is h n l) ∙ without_fiqs a.routes (32 * n) o)

-- ---- four words

-- what four words hold, by the word
pub held-is : (w x y z : ℕ) (g : ℕ → ℕ) → w ≡ g 0 → x ≡ g 1 → y ≡ g 2 → z ≡ g 3 → (k : ℕ) → k < 128 → held w x y z k ≡ bit (g (k / 32)) (k % 32)
unfolding bit_at
held-is w x y z g e₀ e₁ e₂ e₃ k l = ap (λ (v : ℕ). bit v (k % 32)) (at (k / 32) (omega (arith, l)))
  where
    at : (n : ℕ) → n < 4 → get_or (w ∷ x ∷ y ∷ z ∷ []) n 0 ≡ g n
    at zero m = e₀
    at (suc zero) m = e₁
    at (suc (suc zero)) m = e₂
    at (suc (suc (suc zero))) m = e₃
    at (suc (suc (suc (suc n)))) m = absurd (omega (arith, m))

-- word n of four
abbrev nth : ℕ → ℕ → ℕ → ℕ → ℕ → ℕ
nth w x y z n = get_or (w ∷ x ∷ y ∷ z ∷ []) n 0

module _ (w x y z : ℕ) where
  abbrev any : ℕ
  any = either (either w x) (either y z)

  any-bit : (i : ℕ) → i < 32 → bit any i ≡ ((bit w i || bit x i) || (bit y i || bit z i))
  any-bit i l = bit-either (either w x) (either y z) i l ∙ ap₂ ◌||◌ (bit-either w x i l) (bit-either y z i l)

  -- none is held where all are 0
  pub none-held : (v : ℕ) → v ≡ any → v ≡ 0 → (k : ℕ) → k < 128 → held w x y z k ≡ false
  unfolding bit_at
  none-held v e o k l = at (k / 32) (omega (arith, l))
    where
      off : ((bit w (k % 32) || bit x (k % 32)) || (bit y (k % 32) || bit z (k % 32))) ≡ false
      off = sym (any-bit (k % 32) (omega arith)) ∙ ap (λ (u : ℕ). bit u (k % 32)) (sym e ∙ o) ∙ bit-none (k % 32)

      at : (n : ℕ) → n < 4 → bit (nth w x y z n) (k % 32) ≡ false
      at zero m = (or_neither (bit w (k % 32)) (bit x (k % 32)) (or_neither (bit w (k % 32) || bit x (k % 32)) _ off).0).0
      at (suc zero) m = (or_neither (bit w (k % 32)) (bit x (k % 32)) (or_neither (bit w (k % 32) || bit x (k % 32)) _ off).0).1
      at (suc (suc zero)) m = (or_neither (bit y (k % 32)) (bit z (k % 32)) (or_neither (bit w (k % 32) || bit x (k % 32)) _ off).1).0
      at (suc (suc (suc zero))) m = (or_neither (bit y (k % 32)) (bit z (k % 32)) (or_neither (bit w (k % 32) || bit x (k % 32)) _ off).1).1
      at (suc (suc (suc (suc n)))) m = absurd (omega (arith, m))

  -- one is held where not all are
  pub some-held : (v : ℕ) → v ≡ any → (v ≡ 0 → ⊥) → SomeOf (held w x y z)
  unfolding bit_at
  some-held v e d =
      let b = some-bit 32 any (either_lt (either w x) (either y z)) (λ q. d (e ∙ q)) in
      let i = b.0 in
      which i b.1 (sym (any-bit i b.1) ∙ b.2) (told (bit w i)) (told (bit x i)) (told (bit y i))
    where
      at : (n i : ℕ) → n < 4 → i < 32 → bit (nth w x y z n) i ≡ true → SomeOf (held w x y z)
      at n i m l t =
          let q : (32 * n + i) / 32 ≡ n = omega (arith, l) in
          let r : (32 * n + i) % 32 ≡ i = omega (arith, l) in
          (32 * n + i, omega (arith, m, l), ap₂ (λ (u v : ℕ). bit (nth w x y z u) v) q r ∙ t)

      which : (i : ℕ) → i < 32 → ((bit w i || bit x i) || (bit y i || bit z i)) ≡ true → (bit w i ≡ true) ⊎ (bit w i ≡ false) → (bit x i ≡ true) ⊎ (bit x i ≡ false)
          → (bit y i ≡ true) ⊎ (bit y i ≡ false) → SomeOf (held w x y z)
      which i l t (inl p) _ _ = at 0 i (omega arith) l p
      which i l t (inr p) (inl q) _ = at 1 i (omega arith) l q
      which i l t (inr p) (inr q) (inl r) = at 2 i (omega arith) l r
      which i l t (inr p) (inr q) (inr r) =
          at 3 i (omega arith) l (sym (ap₂ (λ (u v : Bool). u || v) (ap₂ ◌||◌ p q) (ap (λ (u : Bool). u || bit z i) r)) ∙ t)

-- ---- two halves

-- half n of two
abbrev half_at : ℕ → ℕ → ℕ → ℕ
half_at x y n = get_or (x ∷ y ∷ []) n 0

bit_up : (r n j : ℕ) → bit r (n + j) ≡ bit (r / 2 ^ n) j
unfolding bit
bit_up r n j = ap (λ (w : ℕ). eqb (w % 2) 1) (sym (shr-shr r n j))

-- two words as one number
pub pair-bit : (a b r : ℕ) → a < 4294967296 → r ≡ 4294967296 * b + a → (i : ℕ) → i < 64 → bit r i ≡ bit_at (a ∷ b ∷ []) i
unfolding bit_at
pair-bit a b r l e i m = go (dec_lt i 32)
  where
    low : r % 4294967296 ≡ a
    low = omega (arith, l, e)

    high : r / 4294967296 ≡ b
    high = omega (arith, l, e)

    go : Dec (i < 32) → bit r i ≡ bit (half_at a b (i / 32)) (i % 32)
    go (yes u) =
        let q : i / 32 ≡ 0 = omega (arith, u) in
        let s : i % 32 ≡ i = omega (arith, u) in
        sym (bit_mod r 32 i u) ∙ ap (λ (w : ℕ). bit w i) low ∙ sym (ap₂ (λ (n j : ℕ). bit (half_at a b n) j) q s)
    go (no u) =
        let q : i / 32 ≡ 1 = omega (arith, u, m) in
        let s : i ≡ 32 + i % 32 = omega (arith, u, m) in
        ap (bit r) s ∙ bit_up r 32 (i % 32) ∙ ap (λ (w : ℕ). bit w (i % 32)) high ∙ sym (ap (λ (n : ℕ). bit (half_at a b n) (i % 32)) q)

-- four words as two halves
pub halves-held : (a b c d x y : ℕ) → ((i : ℕ) → i < 64 → bit x i ≡ bit_at (a ∷ b ∷ []) i) → ((i : ℕ) → i < 64 → bit y i ≡ bit_at (c ∷ d ∷ []) i)
    → (k : ℕ) → k < 128 → halves x y k ≡ held a b c d k
unfolding bit_at
halves-held a b c d x y ex ey k l = go (dec_lt k 64)
  where
    below : (n : ℕ) → n < 2 → half_at a b n ≡ nth a b c d n
    below zero m = refl
    below (suc zero) m = refl
    below (suc (suc n)) m = absurd (omega (arith, m))

    above-two : (n : ℕ) → n < 2 → half_at c d n ≡ nth a b c d (2 + n)
    above-two zero m = refl
    above-two (suc zero) m = refl
    above-two (suc (suc n)) m = absurd (omega (arith, m))

    go : Dec (k < 64) → halves x y k ≡ bit (nth a b c d (k / 32)) (k % 32)
    go (yes u) =
        let q : k / 64 ≡ 0 = omega (arith, u) in
        let n : k % 64 / 32 ≡ k / 32 = omega (arith, u) in
        let r : k % 64 % 32 ≡ k % 32 = omega arith in
        ap (λ (v : ℕ). bit (half_at x y v) (k % 64)) q ∙ ex (k % 64) (omega arith) ∙ ap (λ (w : ℕ). bit w (k % 64 % 32)) (below (k % 64 / 32) (omega arith))
        ∙ ap₂ (λ (v j : ℕ). bit (nth a b c d v) j) n r
    go (no u) =
        let q : k / 64 ≡ 1 = omega (arith, u, l) in
        let n : 2 + k % 64 / 32 ≡ k / 32 = omega (arith, u, l) in
        let r : k % 64 % 32 ≡ k % 32 = omega arith in
        ap (λ (v : ℕ). bit (half_at x y v) (k % 64)) q ∙ ey (k % 64) (omega arith) ∙ ap (λ (w : ℕ). bit w (k % 64 % 32)) (above-two (k % 64 / 32) (omega arith))
        ∙ ap₂ (λ (v j : ℕ). bit (nth a b c d v) j) n r

pub dropped : (a b : ℕ) → a < 2 ^ 64 → b < 2 ^ 64 → (i : ℕ) → i < 64 → bit (bit_and a (2 ^ 64 - 1 - b)) i ≡ (bit a i && not (bit b i))
dropped a b la lb i l = bit-and a (2 ^ 64 - 1 - b) i ∙ ap (λ (t : Bool). bit a i && t) (bit_not 64 b i lb l)

-- those of two halves that are none of two others
pub halves-dropped : (a b c d : ℕ) → a < 2 ^ 64 → b < 2 ^ 64 → c < 2 ^ 64 → d < 2 ^ 64 → (k : ℕ) → k < 128
    → halves (bit_and a (2 ^ 64 - 1 - c)) (bit_and b (2 ^ 64 - 1 - d)) k ≡ (halves a b k && not (halves c d k))
halves-dropped a b c d la lb lc ld k l = at (k / 64) (omega (arith, l))
  where
    at : (n : ℕ) → n < 2
        → bit (half_at (bit_and a (2 ^ 64 - 1 - c)) (bit_and b (2 ^ 64 - 1 - d)) n) (k % 64) ≡ (bit (half_at a b n) (k % 64) && not (bit (half_at c d n) (k % 64)))
    at zero m = dropped a c la lc (k % 64) (omega arith)
    at (suc zero) m = dropped b d lb ld (k % 64) (omega arith)
    at (suc (suc n)) m = absurd (omega (arith, m))

-- none is held where both are 0, and one where one is not
none-halves : (x y : ℕ) → x ≡ 0 → y ≡ 0 → (k : ℕ) → k < 128 → halves x y k ≡ false
none-halves x y ex ey k l = at (k / 64) (omega (arith, l))
  where
    at : (n : ℕ) → n < 2 → bit (half_at x y n) (k % 64) ≡ false
    at zero m = ap (λ (w : ℕ). bit w (k % 64)) ex ∙ bit-none (k % 64)
    at (suc zero) m = ap (λ (w : ℕ). bit w (k % 64)) ey ∙ bit-none (k % 64)
    at (suc (suc n)) m = absurd (omega (arith, m))

in_half : (x y n i : ℕ) → n < 2 → i < 64 → bit (half_at x y n) i ≡ true → SomeOf (halves x y)
in_half x y n i m l t =
    let q : (64 * n + i) / 64 ≡ n = omega (arith, l) in
    let r : (64 * n + i) % 64 ≡ i = omega (arith, l) in
    (64 * n + i, omega (arith, m, l), ap₂ (λ (u v : ℕ). bit (half_at x y u) v) q r ∙ t)

pub any-halves : (x y : ℕ) → x < 2 ^ 64 → y < 2 ^ 64 → (not (eqb x 0) || not (eqb y 0)) ≡ any_below 128 (halves x y)
any-halves x y lx ly = go (ℕ_discrete x 0) (ℕ_discrete y 0)
  where
    found : SomeOf (halves x y) → any_below 128 (halves x y) ≡ true
    found (k, l, e) = some_any 128 (halves x y) k l e

    go : Dec (x ≡ 0) → Dec (y ≡ 0) → (not (eqb x 0) || not (eqb y 0)) ≡ any_below 128 (halves x y)
    go (yes p) (yes q) = ap₂ (λ (s t : Bool). not s || not t) (eq-eqb x 0 p) (eq-eqb y 0 q) ∙ sym (any_none 128 (halves x y) (none-halves x y p q))
    go (no p) _ = or_left _ (ap not (ne_eqb x 0 p)) ∙ sym (found (let b = some-bit 64 x lx p in in_half x y 0 b.0 (omega arith) b.1 b.2))
    go (yes p) (no q) = or_right (not (eqb x 0)) (ap not (ne_eqb y 0 q)) ∙ sym (found (let b = some-bit 64 y ly q in in_half x y 1 b.0 (omega arith) b.1 b.2))

-- ---- the highest

pub highest-bit : (w r : ℕ) → w < 2 ^ 64 → w ≢ 0 → r ≡ 63 - count_leading_zeros 64 w → HighestOf (bit w) 64 r
unfolding bit
highest-bit w r l d e =
    let t = leading_top 64 w (omega (arith, d)) l in
    let j = t.0 in
    let q : r ≡ j = omega (arith, e, t.1) in
    let m : 1 ≤ w / 2 ^ j = (le-div_iff_mul-le (pow_pos j)).1 (omega (arith, t.2)) in
    let n : w / 2 ^ j < 2 = (div-lt_iff_lt-mul (pow_pos j)).1 (omega (arith, t.3, pow-suc 2 j)) in
    let s : w / 2 ^ j % 2 ≡ 1 = omega (arith, m, n) in
    record {
      within = omega (arith, e);
      fit = ap (bit w) q ∙ eq-eqb (w / 2 ^ j % 2) 1 s;
      above = λ i u v. bit_past (suc j) w i t.3 (omega (arith, q, v));
    }

-- of two halves, a higher one being 0
pub highest_in : (x y n r k : ℕ) → n < 2 → HighestOf (bit (half_at x y n)) 64 r → (n < 1 → y ≡ 0) → k ≡ 64 * n + r → HighestOf (halves x y) 128 k
highest_in x y n r k l h o e =
    let q : k / 64 ≡ n = omega (arith, e, h.within) in
    let s : k % 64 ≡ r = omega (arith, e, h.within) in
    record {
      within = omega (arith, e, h.within, l);
      fit = ap₂ (λ (u v : ℕ). bit (half_at x y u) v) q s ∙ h.fit;
      above = λ j m u. go j m u (ℕ_discrete (j / 64) n);
    }
  where
    go : (j : ℕ) → j < 128 → k < j → Dec (j / 64 ≡ n) → halves x y j ≡ false
    go j m u (yes p) = ap (λ (v : ℕ). bit (half_at x y v) (j % 64)) p ∙ h.above (j % 64) (omega arith) (omega (arith, e, u, p, h.within))
    go j m u (no p) =
        let q : j / 64 ≡ 1 = omega (arith, e, u, m, p, h.within) in
        ap (λ (v : ℕ). bit (half_at x y v) (j % 64)) q ∙ ap (λ (v : ℕ). bit v (j % 64)) (o (omega (arith, e, u, m, p, l, h.within))) ∙ bit-none (j % 64)

pub none_of : {A : Type 0} (x y : ℕ) → x ≡ 0 → y ≡ 0 → SomeOf (halves x y) → A
none_of x y ex ey (k, l, e) = clash e (none-halves x y ex ey k l)

-- ---- those of the lowest priority, by the bits from k on

pub record Least (s : Aintc) (p q : ℕ → Bool) (k : ℕ) : Type 0 where
  -- there is one, and each is one of p
  pub some : SomeOf q
  pub among : (i : ℕ) → i < 128 → q i ≡ true → p i ≡ true
  -- none of p has a lower priority, and those of the same are among them
  pub lowest : (i j : ℕ) → i < 128 → j < 128 → q i ≡ true → p j ≡ true → priority s i / 2 ^ k ≤ priority s j / 2 ^ k
  pub whole : (i j : ℕ) → i < 128 → j < 128 → q i ≡ true → p j ≡ true → priority s j / 2 ^ k ≤ priority s i / 2 ^ k → q j ≡ true

-- at first all
pub least-all : (s : Aintc) (p q : ℕ → Bool) → ((i : ℕ) → i < 128 → q i ≡ p i) → SomeOf p → Least s p q 7
least-all s p q e (k, l, o) =
    record {
      some = (k, l, e k l ∙ o);
      among = λ i m f. sym (e i m) ∙ f;
      lowest = λ i j m n f g. omega (arith, priority-fits s i, priority-fits s j);
      whole = λ i j m n f g u. e j n ∙ g;
    }

module _ (s : Aintc) (p q t : ℕ → Bool) (k : ℕ) (h : Least s p q (suc k)) (e : (i : ℕ) → i < 128 → t i ≡ (q i && not (bit (priority s i) k))) where
  abbrev part : ℕ → ℕ
  part i = priority s i / 2 ^ k

  half : (i : ℕ) → priority s i / 2 ^ suc k ≡ part i / 2
  half i = ap (λ (n : ℕ). priority s i / 2 ^ n) {x = suc k} {y = k + 1} (omega arith) ∙ sym (shr-shr (priority s i) k 1)

  kept_in : (i : ℕ) → i < 128 → t i ≡ true → q i ≡ true
  kept_in i l f = and_left (q i) (not (bit (priority s i) k)) (sym (e i l) ∙ f)

  even : (i : ℕ) → i < 128 → t i ≡ true → part i % 2 ≡ 0
  unfolding bit
  even i l f = go (ℕ_discrete (part i % 2) 1)
    where
      off : not (eqb (part i % 2) 1) ≡ true
      off = and_right (q i) (not (eqb (part i % 2) 1)) (sym (e i l) ∙ f)

      go : Dec (part i % 2 ≡ 1) → part i % 2 ≡ 0
      go (yes z) = clash off (ap not (eq-eqb (part i % 2) 1 z))
      go (no z) = omega (arith, z)

  stays : (i : ℕ) → i < 128 → q i ≡ true → part i % 2 ≡ 0 → t i ≡ true
  unfolding bit
  stays i l f z = e i l ∙ and_both f (ap not (ne_eqb (part i % 2) 1 (λ o. omega (arith, z, o))))

  odd : (i : ℕ) → i < 128 → q i ≡ true → t i ≡ false → part i % 2 ≡ 1
  odd i l f g = go (ℕ_discrete (part i % 2) 0)
    where
      go : Dec (part i % 2 ≡ 0) → part i % 2 ≡ 1
      go (yes z) = clash (stays i l f z) g
      go (no z) = omega (arith, z)

  low : (i j : ℕ) → i < 128 → j < 128 → q i ≡ true → p j ≡ true → part i / 2 ≤ part j / 2
  low i j l m f g = omega (arith, h.lowest i j l m f g, half i, half j)

  in_too : (i j : ℕ) → i < 128 → j < 128 → q i ≡ true → p j ≡ true → part j / 2 ≤ part i / 2 → q j ≡ true
  in_too i j l m f g o = h.whole i j l m f g (omega (arith, o, half i, half j))

  -- some have the bit 0
  pub least-some : SomeOf t → Least s p t k
  least-some o =
      record {
        some = o;
        among = λ i l f. h.among i l (kept_in i l f);
        lowest = λ i j l m f g. omega (arith, low i j l m (kept_in i l f) g, even i l f);
        whole = λ i j l m f g u. let v : part j / 2 ≤ part i / 2 = omega (arith, u) in
            stays j m (in_too i j l m (kept_in i l f) g v) (omega (arith, u, even i l f, low i j l m (kept_in i l f) g));
      }

  -- none has
  pub least-none : ((i : ℕ) → i < 128 → t i ≡ false) → Least s p q k
  least-none o =
      record {
        some = h.some;
        among = h.among;
        lowest = λ i j l m f g. under i j l m f g (dec_lt (part i / 2) (part j / 2));
        whole = λ i j l m f g u. in_too i j l m f g (omega (arith, u));
      }
    where
      under : (i j : ℕ) → i < 128 → j < 128 → q i ≡ true → p j ≡ true → Dec (part i / 2 < part j / 2) → part i ≤ part j
      under i j l m f g (yes u) = omega (arith, u)
      under i j l m f g (no u) =
          let v : part j / 2 ≤ part i / 2 = omega (arith, u) in
          omega (arith, low i j l m f g, v, odd j m (in_too i j l m f g v) (o j m))

-- the highest of those of the lowest priority is the first
pub first_least : (s : Aintc) (p q : ℕ → Bool) (k : ℕ) → Least s p q 0 → HighestOf q 128 k → FirstOf s p k
first_least s p q k h t =
    record {
      within = t.within;
      fit = h.among k t.within t.fit;
      others = λ j l e d. ((choice-promises.kept).before_is s k j).1 (which j l e d (dec_lt (priority s k) (priority s j)));
    }
  where
    which : (j : ℕ) → j < 128 → p j ≡ true → j ≢ k → Dec (priority s k < priority s j) → (priority s k < priority s j) ⊎ ((priority s k ≡ priority s j) × (j < k))
    which j l e d (yes u) = inl u
    which j l e d (no u) = inr (omega (arith, h.lowest k j t.within l t.fit e, u), below (dec_lt j k))
      where
        below : Dec (j < k) → j < k
        below (yes v) = v
        below (no v) = clash (h.whole k j t.within l t.fit e (omega (arith, u))) (t.above j l (omega (arith, v, d)))

-- ---- a turn of the search

module _ {s : Aintc} {room : List ℕ} (h : Laid s room) (k : ℕ) (l : k < 7) (low high u v x y : ℕ)
    (eu : (i : ℕ) → i < 128 → halves u v i ≡ held (get_or room (32 + 4 * k) 0) (get_or room (32 + 4 * k + 1) 0) (get_or room (32 + 4 * k + 2) 0) (get_or room (32 + 4 * k + 3) 0) i)
    (ex : (i : ℕ) → i < 128 → halves x y i ≡ (halves low high i && not (halves u v i))) where
  -- those of which bit k of the priority is 0
  narrowed : (i : ℕ) → i < 128 → halves x y i ≡ (halves low high i && not (bit (priority s i) k))
  narrowed i m =
      let e : 32 * (i / 32) + i % 32 ≡ i = omega arith in
      let at : (a b : ℕ) → a ≡ b → get_or room a 0 ≡ get_or room b 0 = λ a b q. ap (λ (n : ℕ). get_or room n 0) q in
      ex i m
      ∙ ap (λ (t : Bool). halves low high i && not t)
      (eu i m ∙ held-is _ _ _ _ (λ n. get_or room (32 + (4 * k + n)) 0) (at _ _ (omega arith)) (at _ _ (omega arith)) (at _ _ (omega arith)) (at _ _ (omega arith)) i m
      ∙ priority-bit s room h k (i / 32) (i % 32) l (omega (arith, m)) (omega arith) ∙ ap (λ (n : ℕ). bit (priority s n) k) e)

  module _ (p : ℕ → Bool) (g : Least s p (halves low high) (suc k)) where
    -- they are the next ones where there are any
    pub turned-some : true ≡ any_below 128 (halves x y) → Least s p (halves x y) k
    turned-some e = least-some s p (halves low high) (halves x y) k g narrowed (any_some 128 (halves x y) (sym e))

    pub turned-none : false ≡ any_below 128 (halves x y) → Least s p (halves low high) k
    turned-none e = least-none s p (halves low high) (halves x y) k g narrowed (any_fails 128 (halves x y) (sym e))
