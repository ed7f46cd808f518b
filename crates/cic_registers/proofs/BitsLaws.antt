-- Registers of bits: their bits after a read or a write, and that writes keep an array clean of spare bits.
use mathlib.Core.Path.{◌≡◌, sym, ap, ap₂, ◌∙◌}
use mathlib.Core.Bool.{Bool, true, not, ◌&&◌, ◌||◌}
use mathlib.Core.List.{List}
use mathlib.Core.Logic.{◌≢◌}
use Prim.Native.Nat.{ℕ, ◌+◌, ◌*◌, ◌^◌, ◌<◌}
use native.Mathlib.Nat.{lt_of_le_of_lt, mod-le}
use lib.Dec.{ltb}
use lib.ListN.{get_or, set, length, length-set}
use lib.Seq.{get_or-set_same, get_or-set_other}
use Rattle.words.specs.Array.{bit_at, rest_at, clean_below}
use Rattle.words.specs.Word.{bit, either, without, kept}
use Rattle.words.proofs.ArrayLaws.{bit_at_word, rest-ltb, clean-put, clean_word, clean-kept, clean-either, clean-without}
use Rattle.words.proofs.WordLaws.{bit-either, bit-without, bit_kept, either_lt, without_lt}
use Rattle.cic_registers.specs.Bits.{word_read, bits_set, bits_cleared, word_replaced}

-- ---- their bits

kept-bit : (n w k j : ℕ) → bit (kept (rest_at n k) w) j ≡ (bit w j && ltb (32 * k + j) n)
kept-bit n w k j = bit_kept (rest_at n k) w j ∙ ap (λ (t : Bool). bit w j && t) (rest-ltb n k j)

-- the bits of the word that was put
put-bit : (ws : List ℕ) (k x j : ℕ) → k < length ws → j < 32 → bit_at (set ws k x) (32 * k + j) ≡ bit x j
put-bit ws k x j l b = bit_at_word (set ws k x) k j b ∙ ap (λ (w : ℕ). bit w j) (get_or-set_same ws k x 0 l)

pub read-bit : (n : ℕ) (ws : List ℕ) (k j : ℕ) → j < 32 → bit (word_read n ws k) j ≡ (bit_at ws (32 * k + j) && ltb (32 * k + j) n)
unfolding word_read
read-bit n ws k j b = kept-bit n (get_or ws k 0) k j ∙ ap (λ (t : Bool). t && ltb (32 * k + j) n) (sym (bit_at_word ws k j b))

pub set_bits : (n : ℕ) (ws : List ℕ) (k v j : ℕ) → k < length ws → j < 32 → bit_at (bits_set n ws k v) (32 * k + j) ≡ (bit_at ws (32 * k + j) || (bit v j && ltb (32 * k + j) n))
unfolding bits_set
set_bits n ws k v j l b =
    put-bit ws k (either (get_or ws k 0) (kept (rest_at n k) v)) j l b ∙ bit-either (get_or ws k 0) (kept (rest_at n k) v) j b
    ∙ ap₂ (λ (s t : Bool). s || t) (sym (bit_at_word ws k j b)) (kept-bit n v k j)

pub clear_bits : (ws : List ℕ) (k v j : ℕ) → k < length ws → j < 32 → bit_at (bits_cleared ws k v) (32 * k + j) ≡ (bit_at ws (32 * k + j) && not (bit v j))
unfolding bits_cleared
clear_bits ws k v j l b =
    put-bit ws k (without (get_or ws k 0) v) j l b ∙ bit-without (get_or ws k 0) v j b ∙ ap (λ (t : Bool). t && not (bit v j)) (sym (bit_at_word ws k j b))

pub replace_bits : (n : ℕ) (ws : List ℕ) (k v j : ℕ) → k < length ws → j < 32 → bit_at (word_replaced n ws k v) (32 * k + j) ≡ (bit v j && ltb (32 * k + j) n)
unfolding word_replaced
replace_bits n ws k v j l b = put-bit ws k (kept (rest_at n k) v) j l b ∙ kept-bit n v k j

-- no other word changes
pub set_no-other : (n : ℕ) (ws : List ℕ) (k v i : ℕ) → i ≢ k → get_or (bits_set n ws k v) i 0 ≡ get_or ws i 0
unfolding bits_set
set_no-other n ws k v i d = get_or-set_other ws k i (either (get_or ws k 0) (kept (rest_at n k) v)) 0 d

pub clear_no-other : (ws : List ℕ) (k v i : ℕ) → i ≢ k → get_or (bits_cleared ws k v) i 0 ≡ get_or ws i 0
unfolding bits_cleared
clear_no-other ws k v i d = get_or-set_other ws k i (without (get_or ws k 0) v) 0 d

pub replace_no-other : (n : ℕ) (ws : List ℕ) (k v i : ℕ) → i ≢ k → get_or (word_replaced n ws k v) i 0 ≡ get_or ws i 0
unfolding word_replaced
replace_no-other n ws k v i d = get_or-set_other ws k i (kept (rest_at n k) v) 0 d

-- ---- their lengths and widths

pub same_lengths : (n : ℕ) (ws : List ℕ) (k v : ℕ) → (length (bits_set n ws k v) ≡ length ws) × (length (bits_cleared ws k v) ≡ length ws) × (length (word_replaced n ws k v) ≡ length ws)
unfolding bits_set bits_cleared word_replaced
same_lengths n ws k v = (
  length-set ws k (either (get_or ws k 0) (kept (rest_at n k) v)),
  length-set ws k (without (get_or ws k 0) v),
  length-set ws k (kept (rest_at n k) v),
)

kept_word : (n w : ℕ) → w < 2 ^ 32 → kept n w < 2 ^ 32
unfolding kept
kept_word n w l = lt_of_le_of_lt (mod-le w (2 ^ n)) l

pub read_word : (n : ℕ) (ws : List ℕ) (k : ℕ) → get_or ws k 0 < 2 ^ 32 → word_read n ws k < 2 ^ 32
unfolding word_read
read_word n ws k l = kept_word (rest_at n k) (get_or ws k 0) l

pub put_word : (n : ℕ) (ws : List ℕ) (k v : ℕ) → k < length ws → v < 2 ^ 32
    → (get_or (bits_set n ws k v) k 0 < 2 ^ 32) × (get_or (bits_cleared ws k v) k 0 < 2 ^ 32) × (get_or (word_replaced n ws k v) k 0 < 2 ^ 32)
unfolding bits_set bits_cleared word_replaced
put_word n ws k v l b = (
  rw (get_or-set_same ws k (either (get_or ws k 0) (kept (rest_at n k) v)) 0 l) (either_lt (get_or ws k 0) (kept (rest_at n k) v)),
  rw (get_or-set_same ws k (without (get_or ws k 0) v) 0 l) (without_lt (get_or ws k 0) v),
  rw (get_or-set_same ws k (kept (rest_at n k) v) 0 l) (kept_word (rest_at n k) v b),
)

-- ---- clean of spare bits

pub clean-bits_set : (m n : ℕ) (ws : List ℕ) (k v : ℕ) → clean_below m n ws ≡ true → clean_below m n (bits_set n ws k v) ≡ true
unfolding bits_set
clean-bits_set m n ws k v e =
    clean-put m n ws k (either (get_or ws k 0) (kept (rest_at n k) v)) e
    (λ l. clean-either (rest_at n k) (get_or ws k 0) (kept (rest_at n k) v) (clean_word m n ws k l e) (clean-kept (rest_at n k) v))

pub clean-bits_cleared : (m n : ℕ) (ws : List ℕ) (k v : ℕ) → clean_below m n ws ≡ true → clean_below m n (bits_cleared ws k v) ≡ true
unfolding bits_cleared
clean-bits_cleared m n ws k v e =
    clean-put m n ws k (without (get_or ws k 0) v) e (λ l. clean-without (rest_at n k) (get_or ws k 0) v (clean_word m n ws k l e))

pub clean-word_replaced : (m n : ℕ) (ws : List ℕ) (k v : ℕ) → clean_below m n ws ≡ true → clean_below m n (word_replaced n ws k v) ≡ true
unfolding word_replaced
clean-word_replaced m n ws k v e = clean-put m n ws k (kept (rest_at n k) v) e (λ _. clean-kept (rest_at n k) v)
