-- Which bytes of some words are a number, a bit for each.
use mathlib.Core.Path.{◌≡◌, sym, ap, ap₂, ◌∙◌}
use mathlib.Core.Bool.{Bool}
use mathlib.Core.List.{List}
use Prim.Native.Nat.{ℕ, ◌+◌, ◌-◌, ◌*◌, ◌/◌, ◌%◌, ◌^◌, ◌≤◌, ◌<◌}
use native.Mathlib.Nat.{div-one}
use native.Mathlib.Decide.{dec_lt}
use native.Mathlib.Omega.{arith}
use lib.Dec.{eqb}
use lib.ListN.{get_or}
use lib.Pow.{high, low, shr-shr}
use Rattle.words.specs.Array.{byte_of}
use Rattle.words.specs.Counting.{one}
use Rattle.words.specs.Word.{bit, word_of}
use Rattle.words.proofs.WordLaws.{word_of_lt, bit_mod, bit-word_of}
use Rattle.indexed_room.specs.Marks.{Marks}

-- ---- the four bytes of a word

four_bytes : (w b p q r s : ℕ) → p ≡ one (eqb (w % 256) b) → q ≡ one (eqb (w / 256 % 256) b) → r ≡ one (eqb (w / 65536 % 256) b)
    → s ≡ one (eqb (w / 16777216 % 256) b) → s * 8 + (r * 4 + (q * 2 + p)) ≡ word_of 4 (λ j. eqb (byte_of w j) b)
unfolding word_of byte_of
four_bytes w b p q r s e f g h = omega (arith, e, f, g, h, ap (λ (x : ℕ). one (eqb (x % 256) b)) (div-one w))

pub four-marks : (room : List ℕ) (at b p q r s : ℕ) → p ≡ one (eqb (get_or room at 0 % 256) b) → q ≡ one (eqb (get_or room at 0 / 256 % 256) b)
    → r ≡ one (eqb (get_or room at 0 / 65536 % 256) b) → s ≡ one (eqb (get_or room at 0 / 16777216 % 256) b)
    → (s * 8 + (r * 4 + (q * 2 + p)) < 16) × Marks room at b 4 (s * 8 + (r * 4 + (q * 2 + p)))
four-marks room at b p q r s e f g h = (
  omega (arith, d, word_of_lt 4 test),
  record {
    bits =
        λ j l. ap (λ (y : ℕ). bit y j) d ∙ bit-word_of 4 test j l ∙ ap₂ (λ (x y : ℕ). eqb (byte_of (get_or room x 0) y) b) (omega (arith, l)) (omega (arith, l));
  },
)
  where
    test : ℕ → Bool
    test j = eqb (byte_of (get_or room at 0) j) b

    d : s * 8 + (r * 4 + (q * 2 + p)) ≡ word_of 4 test
    d = four_bytes (get_or room at 0) b p q r s e f g h

-- ---- a word that is put above another one of n bits

bits_above : (h l n j : ℕ) → l < 2 ^ n → n ≤ j → bit (h * 2 ^ n + l) j ≡ bit h (j - n)
unfolding bit
bits_above h l n j s g =
    let e : n + (j - n) ≡ j = omega (arith, g) in
    ap (λ (i : ℕ). eqb ((h * 2 ^ n + l) / 2 ^ i % 2) 1) (sym e)
    ∙ ap (λ (x : ℕ). eqb (x % 2) 1) (sym (shr-shr (h * 2 ^ n + l) n (j - n)) ∙ ap (λ (x : ℕ). x / 2 ^ (j - n)) (high h n s))

bits_below : (h l n j : ℕ) → l < 2 ^ n → j < n → bit (h * 2 ^ n + l) j ≡ bit l j
bits_below h l n j s g = sym (bit_mod (h * 2 ^ n + l) n j g) ∙ ap (λ (x : ℕ). bit x j) (low h n s)

-- the bytes of some words, and of as many that follow
pub marks-above : {room : List ℕ} {at b h l : ℕ} (n m : ℕ) → n ≡ 4 * m → l < 2 ^ n → Marks room at b n l → Marks room (at + m) b n h
    → Marks room at b (n + n) (h * 2 ^ n + l)
marks-above {room} {at} {b} {h} {l} n m d s x y = record { bits = λ j k. go j k (dec_lt j n) }
  where
    go : (j : ℕ) → j < n + n → Dec (j < n) → bit (h * 2 ^ n + l) j ≡ eqb (byte_of (get_or room (at + j / 4) 0) (j % 4)) b
    go j k (yes g) = bits_below h l n j s g ∙ x.bits j g
    go j k (no g) =
        bits_above h l n j s (omega (arith, g)) ∙ y.bits (j - n) (omega (arith, g, k))
        ∙ ap₂ (λ (x y : ℕ). eqb (byte_of (get_or room x 0) y) b) (omega (arith, g, d)) (omega (arith, g, d))
