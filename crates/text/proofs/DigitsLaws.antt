-- Eight digits at once: the half bytes of a word move apart, and the rule of a digit is carried out on all of them.
use Prim.Native.Nat.{ℕ, zero, suc, ◌+◌, ◌-◌, ◌*◌, ◌/◌, ◌%◌, ◌^◌, ◌<◌}
use mathlib.Core.Path.{◌≡◌, refl, sym, ap, ap₂, ◌∙◌}
use mathlib.Core.List.{List, [], ◌∷◌}
use native.Mathlib.Nat.{mod-lt, lt_of_lt_of_le, le-add_left}
use native.Mathlib.Omega.{arith}
use lib.Bits.{bit_and, and_block, and_mask}
use lib.Pow.{pow_pos, pow_mono, split, mod-mod-pow, ones_lt}
use lib.ListN.{length}
use lib.Dec.{ltb}
use borrow.Author.Tests.{ltb-true, ltb-false}
use Rattle.words.proofs.ChoiceLaws.{pick_cases}
use Rattle.text.specs.Text.{hex_digit, hex_of}
use Rattle.text.proofs.DigitLaws.{hex-row}
use Rattle.text.specs.Bytes.{bytes_of}

-- ---- masks

-- a mask of which the lowest k bits of the lowest j + k are set: they are kept, and the rest of the mask meets the rest of y
lowest : (j k y e : ℕ) → bit_and y (e * 2 ^ (j + k) + (2 ^ k - 1)) ≡ bit_and (y / 2 ^ (j + k)) e * 2 ^ (j + k) + y % 2 ^ k
lowest j k y e =
    ap (λ (n : ℕ). bit_and n (e * 2 ^ (j + k) + (2 ^ k - 1))) (sym (split y (j + k)))
    ∙ and_block (j + k) (y / 2 ^ (j + k)) e (y % 2 ^ (j + k)) (2 ^ k - 1) (mod-lt y (pow_pos (j + k))) (lt_of_lt_of_le (ones_lt k) (pow_mono (le-add_left k j)))
    ∙ ap (λ (n : ℕ). bit_and (y / 2 ^ (j + k)) e * 2 ^ (j + k) + n) (and_mask (y % 2 ^ (j + k)) k ∙ mod-mod-pow y j k)

-- the same of a y of which the rest and the lowest bits are known
parted : (j k y e a b : ℕ) → y / 2 ^ (j + k) ≡ a → y % 2 ^ k ≡ b → bit_and y (e * 2 ^ (j + k) + (2 ^ k - 1)) ≡ bit_and a e * 2 ^ (j + k) + b
parted j k y e a b f g = lowest j k y e ∙ ap₂ (λ (c d : ℕ). bit_and c e * 2 ^ (j + k) + d) f g

-- the low byte of each half of a word of 64 bits
low-bytes : (y : ℕ) → bit_and y 0x000000FF000000FF ≡ y / 4294967296 % 256 * 4294967296 + y % 256
low-bytes y = lowest 24 8 y 255 ∙ ap (λ (n : ℕ). n * 4294967296 + y % 256) (and_mask (y / 4294967296) 8)

-- ---- numbers in a row

-- half bytes in bytes, the first in the lowest
abbrev packed : List ℕ → ℕ
packed [] = 0
packed (y ∷ ys) = packed ys * 256 + y % 16

-- bytes in fields of 16 bits
abbrev wide : List ℕ → ℕ
wide [] = 0
wide (p ∷ ps) = wide ps * 65536 + p % 256

-- each byte as its two half bytes, the higher first
abbrev pairs : List ℕ → List ℕ
pairs [] = []
pairs (p ∷ ps) = p / 16 ∷ p ∷ pairs ps

-- n times the byte b, and n times the lowest half byte of 16 bits
abbrev all : ℕ → ℕ → ℕ
all zero b = 0
all (suc n) b = all n b * 256 + b

abbrev nibbles : ℕ → ℕ
nibbles zero = 0
nibbles (suc n) = nibbles n * 65536 + 15

abbrev digits_of : List ℕ → List ℕ
digits_of [] = []
digits_of (y ∷ ys) = hex_digit (y % 16) ∷ digits_of ys

-- ---- half bytes move apart

apart : (ps : List ℕ) → bit_and (wide ps / 16) (nibbles (length ps)) + bit_and (wide ps) (nibbles (length ps)) * 256 ≡ packed (pairs ps)
apart [] = refl
apart (p ∷ ps) =
    let m = nibbles (length ps) in
    let w = wide ps in
    let high : bit_and ((w * 65536 + p % 256) / 16) (m * 65536 + 15) ≡ bit_and (w / 16) m * 65536 + p / 16 % 16 = parted 12 4 ((w * 65536 + p % 256) / 16) m (w / 16) (p / 16 % 16) (omega arith) (omega arith) in
    let low : bit_and (w * 65536 + p % 256) (m * 65536 + 15) ≡ bit_and w m * 65536 + p % 16 = parted 12 4 (w * 65536 + p % 256) m w (p % 16) (omega arith) (omega arith) in
    ap₂ (λ (a b : ℕ). a + b * 256) high low ∙ omega (arith, apart ps)

-- ---- the rule

-- 48 is added, and 7 more from ten on
rule : (d : ℕ) → d < 16 → d + 48 + 7 * ((d + 6) / 16) ≡ hex_digit d
unfolding hex_digit
rule d l = pick_cases (λ (b : ℕ). d + 48 + 7 * ((d + 6) / 16) ≡ b) (ltb d 10) (λ e. omega (arith, ltb-true d 10 e)) (λ e. omega (arith, ltb-false d 10 e))

-- every byte is the digit of its half byte
ruled : (ys : List ℕ)
    → bytes_of (length ys) (packed ys + all (length ys) 48 + 7 * bit_and ((packed ys + all (length ys) 6) / 16) (all (length ys) 1)) ≡ digits_of ys
unfolding bytes_of
ruled [] = refl
ruled (y ∷ ys) =
    let n = length ys in
    let w = packed ys in
    let s = all n 6 in
    let o = all n 1 in
    let letters : bit_and ((w * 256 + y % 16 + (s * 256 + 6)) / 16) (o * 256 + 1) ≡ bit_and ((w + s) / 16) o * 256 + (y % 16 + 6) / 16 = parted 7 1 ((w * 256 + y % 16 + (s * 256 + 6)) / 16) o ((w + s) / 16) ((y % 16 + 6) / 16) (omega arith) (omega arith) in
    let z = all n 48 in
    let k = bit_and ((w + s) / 16) o in
    let r : y % 16 + 48 + 7 * ((y % 16 + 6) / 16) ≡ hex_digit (y % 16) = rule (y % 16) (omega arith) in
    let first : (w * 256 + y % 16 + (z * 256 + 48) + 7 * (k * 256 + (y % 16 + 6) / 16)) % 256 ≡ hex_digit (y % 16) = omega arith ∙ r in
    let rest : (w * 256 + y % 16 + (z * 256 + 48) + 7 * (k * 256 + (y % 16 + 6) / 16)) / 256 ≡ w + z + 7 * k = omega arith in
    ap (λ (a : ℕ). bytes_of (suc n) (w * 256 + y % 16 + (z * 256 + 48) + 7 * a)) letters ∙ ap₂ (λ (a b : ℕ). a ∷ bytes_of n b) first rest
    ∙ ap (λ (l : List ℕ). hex_digit (y % 16) ∷ l) (ruled ys)

-- ---- all of it

-- the bytes of a word of 32 bits, the highest first
abbrev bytes : ℕ → List ℕ
bytes v = v / 16777216 ∷ v / 65536 ∷ v / 256 ∷ v ∷ []

-- its halves change places
abbrev pub turned : ℕ → ℕ
turned v = v / 65536 + v % 65536 * 4294967296

-- its bytes move apart
abbrev pub spaced : ℕ → ℕ
spaced v = bit_and (turned v / 256) 0x000000FF000000FF + bit_and (turned v) 0x000000FF000000FF * 65536

over : (h l : ℕ) → (h + l * 4294967296) / 256 ≡ h / 256 + l * 16777216
over h l = omega arith

only : (h l : ℕ) → (h + l * 16777216) % 256 ≡ h % 256
only h l = omega arith

first : (h l : ℕ) → (h + l * 4294967296) % 256 ≡ h % 256
first h l = omega arith

past : (h l : ℕ) → h < 65536 → (h + l * 4294967296) / 4294967296 ≡ l
past h l m = omega arith

shifted : (h l : ℕ) → h < 256 → (h + l * 16777216) / 4294967296 ≡ l / 256
shifted h l m =
    let e : l ≡ l / 256 * 256 + l % 256 = omega arith in
    let f : h + l % 256 * 16777216 < 4294967296 = omega arith in
    omega (arith, e, f)

over-both : (h l : ℕ) → h < 65536 → (h + l * 4294967296) / 256 / 4294967296 ≡ l / 256
over-both h l m = ap (λ (x : ℕ). x / 4294967296) (over h l) ∙ shifted (h / 256) l (omega arith)

in_row : (s r q p : ℕ) → r * 4294967296 + p + (s * 4294967296 + q) * 65536 ≡ (((0 * 65536 + s) * 65536 + r) * 65536 + q) * 65536 + p
in_row s r q p = omega arith

spaced-wide : (v : ℕ) → v < 2 ^ 32 → spaced v ≡ wide (bytes v)
spaced-wide v l =
    let h : v / 65536 < 65536 = omega arith in
    let e : v / 65536 / 256 ≡ v / 16777216 = omega arith in
    let a : turned v / 256 / 4294967296 % 256 ≡ v / 256 % 256 = ap (λ (x : ℕ). x % 256) (over-both (v / 65536) (v % 65536) h) ∙ omega arith in
    let b : turned v / 256 % 256 ≡ v / 16777216 % 256 = ap (λ (x : ℕ). x % 256) (over (v / 65536) (v % 65536)) ∙ only (v / 65536 / 256) (v % 65536) ∙ ap (λ (x : ℕ). x % 256) e in
    let c : turned v / 4294967296 % 256 ≡ v % 256 = ap (λ (x : ℕ). x % 256) (past (v / 65536) (v % 65536) h) ∙ omega arith in
    let d : turned v % 256 ≡ v / 65536 % 256 = first (v / 65536) (v % 65536) in
    ap₂ (λ (x y : ℕ). x + y * 65536) (low-bytes (turned v / 256)) (low-bytes (turned v))
    ∙ rw (a, b, c, d) (in_row (v % 256) (v / 256 % 256) (v / 65536 % 256) (v / 16777216 % 256))

-- its half bytes move apart
abbrev pub halved : ℕ → ℕ
halved v = bit_and (spaced v / 16) 0x000F000F000F000F + bit_and (spaced v) 0x000F000F000F000F * 256

halved-packed : (v : ℕ) → v < 2 ^ 32 → halved v ≡ packed (pairs (bytes v))
halved-packed v l =
    ap (λ (c : ℕ). bit_and (c / 16) 0x000F000F000F000F + bit_and c 0x000F000F000F000F * 256) (spaced-wide v l) ∙ apart (bytes v)

-- the digits of the half bytes are the digits of the word
digits-row : (v : ℕ) → digits_of (pairs (bytes v)) ≡ hex_of 8 v
digits-row v =
    let a : v / 16777216 / 16 ≡ v / 268435456 = omega arith in
    let b : v / 65536 / 16 ≡ v / 1048576 = omega arith in
    let c : v / 256 / 16 ≡ v / 4096 = omega arith in
    rw (a, b, c) (hex-row v)

pub eight : (v : ℕ) → v < 2 ^ 32
    → bytes_of 8 (halved v + 0x3030303030303030 + 7 * bit_and ((halved v + 0x0606060606060606) / 16) 0x0101010101010101) ≡ hex_of 8 v
eight v l =
    ap (λ (d : ℕ). bytes_of 8 (d + 0x3030303030303030 + 7 * bit_and ((d + 0x0606060606060606) / 16) 0x0101010101010101)) (halved-packed v l)
    ∙ ruled (pairs (bytes v)) ∙ digits-row v

-- ---- eight bytes in a row

pub bytes-row : (w : ℕ)
    → w % 256 ∷ w / 256 % 256 ∷ w / 65536 % 256 ∷ w / 16777216 % 256 ∷ w / 4294967296 % 256 ∷ w / 1099511627776 % 256 ∷ w / 281474976710656 % 256
    ∷ w / 72057594037927936 % 256 ∷ []
    ≡ bytes_of 8 w
unfolding bytes_of
bytes-row w =
    let a : w / 256 / 256 ≡ w / 65536 = omega arith in
    let b : w / 65536 / 256 ≡ w / 16777216 = omega arith in
    let c : w / 16777216 / 256 ≡ w / 4294967296 = omega arith in
    let d : w / 4294967296 / 256 ≡ w / 1099511627776 = omega arith in
    let e : w / 1099511627776 / 256 ≡ w / 281474976710656 = omega arith in
    let f : w / 281474976710656 / 256 ≡ w / 72057594037927936 = omega arith in
    rw (a, b, c, d, e, f)
