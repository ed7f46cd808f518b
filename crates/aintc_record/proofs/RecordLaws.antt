-- The bounds of the chosen ones, what a reset leaves, and the bits of a route.
use Prim.Native.Nat.{ℕ, zero, suc, ◌+◌, ◌/◌, ◌%◌, ◌^◌, ◌<◌, ◌≤◌}
use mathlib.Core.Path.{◌≡◌, refl, sym, ap, ap₂, ◌∙◌}
use mathlib.Core.Bool.{true, false, ◌&&◌, ◌||◌, and-true, and-false}
use native.Mathlib.Omega.{arith}
use lib.Dec.{eqb, ltb, leb}
use lib.ListN.{get_or, replicate}
use lib.Pow.{shr-shr}
use native.Mathlib.Decide.{dec_lt}
use borrow.Author.Tests.{eqb-true, eq-eqb, ne_eqb, leb-true, le-leb, lt-leb, lt-ltb, le-ltb}
use Rattle.words.specs.Array.{bit_at}
use Rattle.words.specs.Counting.{all_below}
use Rattle.words.specs.Word.{bit, kept}
use Rattle.words.proofs.ChoiceLaws.{pick_true, pick-false, pick_cases}
use Rattle.words.proofs.TruthLaws.{and_left, and_right, and_both}
use Rattle.words.proofs.CountingLaws.{all_at}
use Rattle.words.proofs.WordLaws.{bit_kept}
use Rattle.aintc_record.specs.declared.Aintc.{Aintc}
use Rattle.aintc_record.specs.declared.Chosen.{Chosen}
use Rattle.aintc_record.specs.Bounds.{chosen_bounded, bounded}
use Rattle.aintc_record.specs.Promises.{Bounds}
use Rattle.aintc_record.specs.Route.{priority_of, route_of, route_value, route_byte, priority}

-- ---- bounds

pub bounds-is : (c : Chosen) → chosen_bounded c ≡ true → Bounds c
unfolding chosen_bounded
bounds-is c h =
    record {
      number = λ e. leb-true c.number 127 (and_left _ (leb c.priority 127) (on e));
      priority = λ e. leb-true c.priority 127 (and_right (leb c.number 127) _ (on e));
      none = λ e. (eqb-true c.number 0 (and_left _ (eqb c.priority 0) (off e)), eqb-true c.priority 0 (and_right (eqb c.number 0) _ (off e)));
    }
  where
    on : c.active ≡ true → (leb c.number 127 && leb c.priority 127) ≡ true
    on e = pick_true _ e ∙ h

    off : c.active ≡ false → (eqb c.number 0 && eqb c.priority 0) ≡ true
    off e = pick-false _ e ∙ h

pub is-bounds : (c : Chosen) → Bounds c → chosen_bounded c ≡ true
unfolding chosen_bounded
is-bounds c b =
    pick_cases (λ t. t ≡ true) c.active
    (λ e. and_both (le-leb c.number 127 (b.number e)) (le-leb c.priority 127 (b.priority e)))
    (λ e. and_both (eq-eqb c.number 0 (b.none e).0) (eq-eqb c.priority 0 (b.none e).1))

pub bounded-is : (s : Aintc) → bounded s ≡ true → Bounds s.irq × Bounds s.fiq
unfolding bounded
bounded-is s h = (bounds-is s.irq (and_left _ (chosen_bounded s.fiq) h), bounds-is s.fiq (and_right (chosen_bounded s.irq) _ h))

pub is-bounded : (s : Aintc) → Bounds s.irq × Bounds s.fiq → bounded s ≡ true
unfolding bounded
is-bounded s (i, f) = and_both (is-bounds s.irq i) (is-bounds s.fiq f)

-- ---- reset

pub same_get_d : (n v i : ℕ) → i < n → ◌≡◌ {A = ℕ} (get_or (replicate n v) i 0) v
same_get_d zero v i l = absurd (omega arith)
same_get_d (suc n) v zero l = refl
same_get_d (suc n) v (suc i) l = same_get_d n v i (omega arith)

full : (i : ℕ) → i < 32 → bit 0xFFFFFFFF i ≡ true
full i l = all_at 32 (bit 0xFFFFFFFF) (unfold all_below bit in refl) i l

pub masks_full : (k : ℕ) → k < 128 → bit_at (replicate 4 0xFFFFFFFF) k ≡ true
unfolding bit_at
masks_full k l = rw (same_get_d 4 0xFFFFFFFF (k / 32) (omega arith)) (full (k % 32) (omega arith))

-- ---- the bits of a route

-- bit j + 2 of a word is bit j of its quarter
bit_quarter : (w j : ℕ) → bit w (suc (suc j)) ≡ bit (w / 4) j
unfolding bit
bit_quarter w j =
    let e : suc (suc j) ≡ 2 + j = omega arith in
    ap (λ (n : ℕ). eqb (n % 2) 1) (ap (λ (i : ℕ). w / 2 ^ i) e ∙ sym (shr-shr w 2 j))

module _ (v : ℕ) where
  shown_quarter : route_value (route_byte v) / 4 ≡ v / 4 % 2 ^ 7
  shown_quarter =
      let h : route_byte v / 2 ≡ v / 4 % 128 = omega arith in
      let q : route_byte v / 2 % 128 ≡ v / 4 % 128 = omega arith in
      rw q (omega arith)

  lowest : bit (route_value (route_byte v)) 0 ≡ bit v 0
  unfolding bit
  lowest = let e : route_value (route_byte v) / 2 ^ 0 % 2 ≡ v / 2 ^ 0 % 2 = omega arith in ap (λ (n : ℕ). eqb n 1) e

  second : bit (route_value (route_byte v)) 1 ≡ false
  unfolding bit
  second = ne_eqb (route_value (route_byte v) / 2 ^ 1 % 2) 1 (omega arith)

  pub route-bit : (k : ℕ) → bit (route_value (route_byte v)) k ≡ (bit v k && (eqb k 0 || (leb 2 k && leb k 8)))
  route-bit zero = lowest ∙ sym (and-true (bit v 0))
  route-bit (suc zero) = second ∙ sym (and-false (bit v 1))
  route-bit (suc (suc j)) =
      bit_quarter (route_value (route_byte v)) j ∙ ap (λ (w : ℕ). bit w j) shown_quarter ∙ upper ∙ ap₂ ◌&&◌ (sym (bit_quarter v j)) (test (dec_lt j 7))
    where
      upper : bit (v / 4 % 2 ^ 7) j ≡ (bit (v / 4) j && ltb j 7)
      upper = unfold kept in (bit_kept 7 (v / 4) j)

      test : Dec (j < 7) → ltb j 7 ≡ (eqb (suc (suc j)) 0 || (leb 2 (suc (suc j)) && leb (suc (suc j)) 8))
      test (yes l) = rw (lt-ltb j 7 l, ne_eqb (suc (suc j)) 0 (omega arith), le-leb 2 (suc (suc j)) (omega arith), le-leb (suc (suc j)) 8 (omega arith))
      test (no n) = rw (le-ltb j 7 (omega arith), ne_eqb (suc (suc j)) 0 (omega arith), lt-leb (suc (suc j)) 8 (omega arith), le-leb 2 (suc (suc j)) (omega arith))

-- no input has a priority past 127
pub priority-fits : (s : Aintc) (k : ℕ) → priority s k ≤ 127
unfolding priority
priority-fits s k = omega arith

-- the fields of a written value are those of the byte
pub route-taken : (v : ℕ) → (priority_of (route_byte v) ≡ v / 4 % 128) × (route_of (route_byte v) ≡ v % 2)
route-taken v = let h : route_byte v / 2 ≡ v / 4 % 128 = omega arith in (omega arith, omega arith)

-- every byte is the route of what it reads
pub route-whole : (b : ℕ) → b < 256 → route_byte (route_value b) ≡ b
route-whole b l =
    let q : route_value b / 4 ≡ b / 2 % 128 = omega arith in
    let r : route_value b % 2 ≡ b % 2 = omega arith in
    let m : b / 2 % 128 % 128 ≡ b / 2 = omega arith in
    rw (q, r, m) (omega arith)
