-- The promises of map registers are kept.
use mathlib.Core.Path.{◌≡◌, refl, sym, ap, ◌∙◌}
use mathlib.Core.Bool.{true, ◌||◌}
use mathlib.Core.List.{List}
use mathlib.Core.Logic.{◌↔◌, ⊎_elim}
use Prim.Native.Nat.{ℕ, zero, suc, ◌+◌, ◌*◌, ◌^◌, ◌<◌, ◌≤◌}
use native.Mathlib.Decide.{dec_lt, ℕ_discrete}
use native.Mathlib.Omega.{arith}
use borrow.Author.Tests.{lt-ltb, le-ltb, ltb-true, leb-true, le-leb}
use lib.Dec.{leb, ltb}
use lib.ListN.{get_or, length, length-set}
use lib.Seq.{get_or-set_same, get_or-set_other}
use Rattle.words.specs.Array.{byte_of}
use Rattle.words.specs.Counting.{all_below, upto}
use Rattle.words.proofs.ChoiceLaws.{pick_cases}
use Rattle.words.proofs.CountingLaws.{all_at, at_all}
use Rattle.words.proofs.TruthLaws.{or-either, or_left, or_right}
use Rattle.cic_registers.specs.Maps.{byte_read, map_read, byte_taken, map_taken, byte_put, map_put}
use Rattle.cic_registers.specs.MapsPromises.{Promises}
use Rattle.cic_registers.proofs.MapLaws.{read_there, read_spare, read_four, put_there}

-- ---- reads

read_lt : (n : ℕ) (m : List ℕ) (k j : ℕ) → ((i : ℕ) → get_or m i 0 < 256) → byte_read n m k j < 256
unfolding byte_read
read_lt n m k j b = pick_cases (λ (x : ℕ). x < 256) (ltb (4 * k + j) n) (λ _. b (4 * k + j)) (λ _. omega arith)

-- the four bytes of a sum of them
byte_of_sum : (a b c d j : ℕ) (f : ℕ → ℕ) → f 0 ≡ a → f 1 ≡ b → f 2 ≡ c → f 3 ≡ d → a < 256 → b < 256 → c < 256 → d < 256 → j < 4
    → byte_of (a + b * 256 + c * 65536 + d * 16777216) j ≡ f j
unfolding byte_of
byte_of_sum a b c d zero f p q r s la lb lc ld l = omega arith ∙ sym p
byte_of_sum a b c d (suc zero) f p q r s la lb lc ld l = omega arith ∙ sym q
byte_of_sum a b c d (suc (suc zero)) f p q r s la lb lc ld l = omega arith ∙ sym r
byte_of_sum a b c d (suc (suc (suc zero))) f p q r s la lb lc ld l = omega arith ∙ sym s
byte_of_sum a b c d (suc (suc (suc (suc j)))) f p q r s la lb lc ld l = absurd (omega arith)

read_byte : (n : ℕ) (m : List ℕ) (k j : ℕ) → ((i : ℕ) → get_or m i 0 < 256) → j < 4 → byte_of (map_read n m k) j ≡ byte_read n m k j
read_byte n m k j b l =
    ap (λ (w : ℕ). byte_of w j) (sym (read_four n m k (byte_read n m k 0) (byte_read n m k 1) (byte_read n m k 2) (byte_read n m k 3) refl refl refl refl))
    ∙ byte_of_sum (byte_read n m k 0) (byte_read n m k 1) (byte_read n m k 2) (byte_read n m k 3) j (byte_read n m k) refl refl refl refl
    (read_lt n m k 0 b) (read_lt n m k 1 b) (read_lt n m k 2 b) (read_lt n m k 3 b) l

read_word : (n : ℕ) (m : List ℕ) (k : ℕ) → ((i : ℕ) → get_or m i 0 < 256) → map_read n m k < 2 ^ 32
read_word n m k b =
    rw (sym (read_four n m k (byte_read n m k 0) (byte_read n m k 1) (byte_read n m k 2) (byte_read n m k 3) refl refl refl refl))
    (omega (arith, read_lt n m k 0 b, read_lt n m k 1 b, read_lt n m k 2 b, read_lt n m k 3 b))

-- ---- values that are taken

taken : (n limit k v : ℕ) → (map_taken n limit k v ≡ true) ↔ ((j : ℕ) → j < 4 → 4 * k + j < n → byte_of v j < limit)
unfolding map_taken byte_taken
taken n limit k v = (there, λ h. at_all 4 (byte_taken n limit k v) (λ j l. back h j l (dec_lt (4 * k + j) n)))
  where
    clash : (j : ℕ) → n ≤ 4 * k + j → 4 * k + j < n → ⊥
    clash j p q = omega arith

    there : all_below 4 (byte_taken n limit k v) ≡ true → (j : ℕ) → j < 4 → 4 * k + j < n → byte_of v j < limit
    there e j l b =
        ⊎_elim (λ (q : leb n (4 * k + j) ≡ true). absurd (clash j (leb-true n (4 * k + j) q) b)) (λ (q : ltb (byte_of v j) limit ≡ true). ltb-true (byte_of v j) limit q)
        (or-either (leb n (4 * k + j)) (ltb (byte_of v j) limit) (all_at 4 (byte_taken n limit k v) e j l))

    back : ((j : ℕ) → j < 4 → 4 * k + j < n → byte_of v j < limit) → (j : ℕ) → j < 4 → Dec (4 * k + j < n) → (leb n (4 * k + j) || ltb (byte_of v j) limit) ≡ true
    back h j l (yes b) = or_right (leb n (4 * k + j)) (lt-ltb (byte_of v j) limit (h j l b))
    back h j l (no b) = or_left (ltb (byte_of v j) limit) (le-leb n (4 * k + j) (omega arith))

-- ---- writes

-- one byte is put, or dropped
put_other : (n k v : ℕ) (m : List ℕ) (j i : ℕ) → (i ≡ 4 * k + j → ⊥) → get_or (byte_put n k v m j) i 0 ≡ get_or m i 0
unfolding byte_put
put_other n k v m j i d = pick_cases (λ (x : List ℕ). get_or x i 0 ≡ get_or m i 0) (ltb (4 * k + j) n) (λ _. get_or-set_other m (4 * k + j) i (byte_of v j) 0 d) (λ _. refl)

put_spare_byte : (n k v : ℕ) (m : List ℕ) (j i : ℕ) → n ≤ i → get_or (byte_put n k v m j) i 0 ≡ get_or m i 0
unfolding byte_put
put_spare_byte n k v m j i l =
    pick_cases (λ (x : List ℕ). get_or x i 0 ≡ get_or m i 0) (ltb (4 * k + j) n)
    (λ e. get_or-set_other m (4 * k + j) i (byte_of v j) 0 (λ q. let b = ltb-true (4 * k + j) n e in omega arith)) (λ _. refl)

put-length : (n k v : ℕ) (m : List ℕ) (j : ℕ) → length (byte_put n k v m j) ≡ length m
unfolding byte_put
put-length n k v m j = pick_cases (λ (x : List ℕ). length x ≡ length m) (ltb (4 * k + j) n) (λ _. length-set m (4 * k + j) (byte_of v j)) (λ _. refl)

-- the bytes below j: what none of them is for stays as it is
puts-other : (n k v : ℕ) (m : List ℕ) (i j : ℕ) → ((x : ℕ) → x < j → i ≡ 4 * k + x → ⊥) → get_or (upto (byte_put n k v) m j) i 0 ≡ get_or m i 0
unfolding upto
puts-other n k v m i zero d = refl
puts-other n k v m i (suc j) d = put_other n k v (upto (byte_put n k v) m j) j i (d j (omega arith)) ∙ puts-other n k v m i j (λ x l. d x (omega arith))

puts_spare : (n k v : ℕ) (m : List ℕ) (i j : ℕ) → n ≤ i → get_or (upto (byte_put n k v) m j) i 0 ≡ get_or m i 0
unfolding upto
puts_spare n k v m i zero l = refl
puts_spare n k v m i (suc j) l = put_spare_byte n k v (upto (byte_put n k v) m j) j i l ∙ puts_spare n k v m i j l

puts-length : (n k v : ℕ) (m : List ℕ) (j : ℕ) → length (upto (byte_put n k v) m j) ≡ length m
unfolding upto
puts-length n k v m zero = refl
puts-length n k v m (suc j) = put-length n k v (upto (byte_put n k v) m j) j ∙ puts-length n k v m j

-- byte j, once it is among those that are put
puts_there : (n k v : ℕ) (m : List ℕ) (j i : ℕ) → j < i → 4 * k + j < n → 4 * k + j < length m → get_or (upto (byte_put n k v) m i) (4 * k + j) 0 ≡ byte_of v j
unfolding upto
puts_there n k v m j zero l b p = absurd (omega arith)
puts_there n k v m j (suc i) l b p = go (λ q. puts_there n k v m j i q b p) (ℕ_discrete j i)
  where
    go : (j < i → get_or (upto (byte_put n k v) m i) (4 * k + j) 0 ≡ byte_of v j) → Dec (j ≡ i) → get_or (byte_put n k v (upto (byte_put n k v) m i) i) (4 * k + j) 0 ≡ byte_of v j
    go before (yes e) =
        ap (λ (x : ℕ). get_or (byte_put n k v (upto (byte_put n k v) m i) x) (4 * k + j) 0) (sym e)
        ∙ ap (λ (x : List ℕ). get_or x (4 * k + j) 0) (sym (put_there n k v (upto (byte_put n k v) m i) j (4 * k + j) (byte_of v j) refl refl refl (lt-ltb (4 * k + j) n b)))
        ∙ get_or-set_same (upto (byte_put n k v) m i) (4 * k + j) (byte_of v j) 0 (omega (arith, puts-length n k v m i))
    go before (no d) = put_other n k v (upto (byte_put n k v) m i) i (4 * k + j) (λ q. d (omega arith)) ∙ before (omega arith)

pub kept : Promises
unfolding map_put
kept =
    record {
      reads = λ n m k j b l u. read_byte n m k j b l ∙ sym (read_there n m k j (4 * k + j) refl refl (lt-ltb (4 * k + j) n u));
      reads_spare = λ n m k j b l u. read_byte n m k j b l ∙ sym (read_spare n m k j (4 * k + j) refl refl (le-ltb (4 * k + j) n u));
      reads_word = read_word;
      taken = taken;
      puts = λ n k v m j l b p. puts_there n k v m j 4 l b p;
      puts_no_spare = λ n k v m i l. puts_spare n k v m i 4 l;
      puts_no_other = λ n k v m i d. puts-other n k v m i 4 (λ x l e. d (omega arith));
      puts_length = λ n k v m. puts-length n k v m 4;
    }
