-- A map byte by byte: the spare ones, those past the end, and the four of a register.
use mathlib.Core.Path.{◌≡◌, sym, ap, ap₂, ◌∙◌}
use mathlib.Core.Bool.{Bool, true, false, ◌&&◌, ◌||◌}
use mathlib.Core.List.{List}
use mathlib.Core.Logic.{⊎_elim}
use Prim.Native.Nat.{ℕ, zero, suc, ◌+◌, ◌*◌, ◌≤◌, ◌<◌}
use native.Mathlib.Omega.{arith}
use borrow.Author.Tests.{ltb-true, leb-true}
use lib.Dec.{eqb, leb, ltb}
use lib.ListN.{get_or, set}
use Rattle.words.specs.Array.{byte_of}
use Rattle.words.specs.Choice.{pick}
use Rattle.words.specs.Counting.{all_below, sum_below, upto}
use Rattle.words.proofs.ArrayLaws.{all-put}
use Rattle.words.proofs.ChoiceLaws.{by-true, by-false, pick_true, pick_cases}
use Rattle.words.proofs.CountingLaws.{all_at}
use Rattle.words.proofs.TruthLaws.{or-either}
use Rattle.cic_record.specs.Sound.{entry_sound}
use Rattle.cic_registers.specs.Maps.{byte_read, map_read, byte_taken, map_taken, byte_put, map_put}

-- ---- reads

-- by the code's test, that the thing is one of the n
pub read_spare : (n : ℕ) (m : List ℕ) (k j at : ℕ) {t : Bool} → at ≡ 4 * k + j → t ≡ ltb at n → t ≡ false → 0 ≡ byte_read n m k j
unfolding byte_read
read_spare n m k j at e f z = by-false (get_or m (4 * k + j) 0) (f ∙ ap (λ (i : ℕ). ltb i n) e) z

pub read_there : (n : ℕ) (m : List ℕ) (k j at : ℕ) {t : Bool} → at ≡ 4 * k + j → t ≡ ltb at n → t ≡ true → get_or m at 0 ≡ byte_read n m k j
unfolding byte_read
read_there n m k j at e f z = ap (λ (i : ℕ). get_or m i 0) e ∙ by-true 0 (f ∙ ap (λ (i : ℕ). ltb i n) e) z

pub read_four : (n : ℕ) (m : List ℕ) (k a b c d : ℕ) → a ≡ byte_read n m k 0 → b ≡ byte_read n m k 1 → c ≡ byte_read n m k 2 → d ≡ byte_read n m k 3
    → a + b * 256 + c * 65536 + d * 16777216 ≡ map_read n m k
unfolding map_read sum_below
read_four n m k a b c d p q r s = omega (arith, p, q, r, s)

-- ---- the check of a value

pub taken_byte : (n limit k v j at b : ℕ) {t : Bool} → at ≡ 4 * k + j → b ≡ byte_of v j → t ≡ ltb b limit → (leb n at || t) ≡ byte_taken n limit k v j
unfolding byte_taken
taken_byte n limit k v j at b e f z = ap₂ (λ (x : ℕ) (y : Bool). leb n x || y) e (z ∙ ap (λ (y : ℕ). ltb y limit) f)

pub taken_four : (n limit k v : ℕ) {a b c d : Bool} → a ≡ byte_taken n limit k v 0 → b ≡ byte_taken n limit k v 1 → c ≡ byte_taken n limit k v 2 → d ≡ byte_taken n limit k v 3
    → (((a && b) && c) && d) ≡ map_taken n limit k v
unfolding map_taken all_below
taken_four n limit k v p q r s = ap₂ ◌&&◌ (ap₂ ◌&&◌ (ap₂ ◌&&◌ p q) r) s

-- ---- writes

pub put_there : (n k v : ℕ) (m : List ℕ) (j at b : ℕ) {t : Bool} → at ≡ 4 * k + j → b ≡ byte_of v j → t ≡ ltb at n → t ≡ true → set m at b ≡ byte_put n k v m j
unfolding byte_put
put_there n k v m j at b e g f z = ap₂ (λ (x y : ℕ). set m x y) e g ∙ by-true m (f ∙ ap (λ (i : ℕ). ltb i n) e) z

-- ---- a map stays sound if the value is taken

-- one byte
put-sound : (m n limit k v : ℕ) (es : List ℕ) (j : ℕ) → all_below m (entry_sound n limit es) ≡ true → byte_taken n limit k v j ≡ true
    → all_below m (entry_sound n limit (byte_put n k v es j)) ≡ true
unfolding byte_put byte_taken entry_sound
put-sound m n limit k v es j e t =
    pick_cases (λ (x : List ℕ). all_below m (entry_sound n limit x) ≡ true) (ltb (4 * k + j) n)
    (λ l. all-put (λ i x. pick (ltb i n) (ltb x limit) (eqb x 0)) m es (4 * k + j) (byte_of v j) e (λ _. sym (pick_true (eqb (byte_of v j) 0) l) ∙ fits l))
    (λ _. e)
  where
    fits : ltb (4 * k + j) n ≡ true → ltb (byte_of v j) limit ≡ true
    fits l =
        ⊎_elim (λ (q : leb n (4 * k + j) ≡ true). absurd (both_ways (leb-true n (4 * k + j) q) (ltb-true (4 * k + j) n l))) (λ (q : ltb (byte_of v j) limit ≡ true). q)
        (or-either (leb n (4 * k + j)) (ltb (byte_of v j) limit) t)
      where
        both_ways : n ≤ 4 * k + j → 4 * k + j < n → ⊥
        both_ways p q = omega arith

-- the bytes below j
puts-sound : (m n limit k v : ℕ) (es : List ℕ) (j : ℕ) → all_below m (entry_sound n limit es) ≡ true → ((i : ℕ) → i < j → byte_taken n limit k v i ≡ true)
    → all_below m (entry_sound n limit (upto (byte_put n k v) es j)) ≡ true
unfolding upto
puts-sound m n limit k v es zero e t = e
puts-sound m n limit k v es (suc j) e t = put-sound m n limit k v (upto (byte_put n k v) es j) j (puts-sound m n limit k v es j e (λ i l. t i (omega arith))) (t j (omega arith))

pub sound-map_put : (m n limit k v : ℕ) (es : List ℕ) → all_below m (entry_sound n limit es) ≡ true → map_taken n limit k v ≡ true
    → all_below m (entry_sound n limit (map_put n k v es)) ≡ true
unfolding map_put map_taken
sound-map_put m n limit k v es e t = puts-sound m n limit k v es 4 e (all_at 4 (byte_taken n limit k v) t)
