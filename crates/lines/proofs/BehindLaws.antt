-- What follows the number of a line: as two words and two bytes, and over the end of the word that has the number's text.
use Prim.Native.Nat.{ℕ, ◌+◌, ◌-◌, ◌*◌, ◌/◌, ◌%◌, ◌^◌, ◌<◌, ◌≤◌}
use mathlib.Core.Path.{◌≡◌, sym, ap, ap₂, ◌∙◌}
use mathlib.Core.List.{List, [], ◌∷◌, ◌++◌, append_assoc}
use native.Mathlib.Omega.{arith}
use lib.Bits.{bit_or, or_add_and, and_le_l, and_le_r}
use lib.ListN.{length, length-append}
use Rattle.text.specs.Text.{space, newline, hex, decimal, field, write}
use Rattle.text.proofs.DigitLaws.{length-hex, decimal_last}
use Rattle.text.specs.Bytes.{bytes_of}
use Rattle.text.proofs.BytesLaws.{length-bytes, bytes-parts, bytes-first, bytes_low}
use Rattle.text.specs.declared.room.Numeral.{Numeral}
use Rattle.text.specs.Numeral.{numeral_of}
use Rattle.text.proofs.NumeralLaws.{numeral_text}
use Rattle.text.proofs.OverLaws.{over}
use Rattle.machine.specs.declared.record.Columns.{Columns}
use Rattle.lines.specs.Behind.{behind}
use Rattle.lines.specs.Listing.{line_of}

-- a line is its number and what follows
pub line-parts : (n letter value : ℕ) (c : Columns) → decimal n ++ behind letter value c ≡ line_of n letter value c
unfolding line_of behind
line-parts n letter value c = simp append_assoc

-- ---- two words

pub opening-bytes : (letter d : ℕ) → letter < 256 → bytes_of 8 (0x200020 + 256 * letter + d % 1099511627776 * 16777216) ≡ space ∷ letter ∷ space ∷ bytes_of 5 d
opening-bytes letter d h =
    let m = d % 1099511627776 in
    let e : 0x200020 + 256 * letter + m * 16777216 ≡ 32 + 256 * (letter + 256 * (32 + 256 * m)) = omega arith in
    ap (bytes_of 8) e ∙ bytes-first 7 32 (letter + 256 * (32 + 256 * m)) (omega arith)
    ∙ ap (λ (l : List ℕ). 32 ∷ l) (bytes-first 6 letter (32 + 256 * m) h ∙ ap (λ (l : List ℕ). letter ∷ l) (bytes-first 5 32 m (omega arith) ∙ ap (λ (l : List ℕ). 32 ∷ l) (bytes_low 5 d)))

ending : (f s : ℕ) → f < 10 → s < 10
    → bytes_of 5 (32 + 256 * (48 + f + 256 * (32 + 256 * (48 + s + 256 * 32)))) ≡ space ∷ (48 + f) ∷ space ∷ (48 + s) ∷ space ∷ []
unfolding bytes_of
ending f s h k =
    bytes-first 4 32 (48 + f + 256 * (32 + 256 * (48 + s + 256 * 32))) (omega arith)
    ∙ ap (λ (l : List ℕ). 32 ∷ l)
    (bytes-first 3 (48 + f) (32 + 256 * (48 + s + 256 * 32)) (omega arith)
    ∙ ap (λ (l : List ℕ). (48 + f) ∷ l)
    (bytes-first 2 32 (48 + s + 256 * 32) (omega arith) ∙ ap (λ (l : List ℕ). 32 ∷ l) (bytes-first 1 (48 + s) 32 (omega arith))))

pub middle-bytes : (d f s : ℕ) → d < 2 ^ 64 → f < 10 → s < 10
    → bytes_of 8 (d / 1099511627776 + 0x2030203020000000 + f * 4294967296 + s * 281474976710656)
    ≡ bytes_of 3 (d / 256 ^ 5) ++ (space ∷ (48 + f) ∷ space ∷ (48 + s) ∷ space ∷ [])
middle-bytes d f s g h k = joined (d / 1099511627776) (omega arith)
  where
    joined : (x : ℕ) → x < 16777216
        → bytes_of 8 (x + 0x2030203020000000 + f * 4294967296 + s * 281474976710656) ≡ bytes_of 3 x ++ (space ∷ (48 + f) ∷ space ∷ (48 + s) ∷ space ∷ [])
    joined x l =
        let y = 32 + 256 * (48 + f + 256 * (32 + 256 * (48 + s + 256 * 32))) in
        let e : x + 0x2030203020000000 + f * 4294967296 + s * 281474976710656 ≡ x + 16777216 * y = omega arith in
        let q : (x + 16777216 * y) / 16777216 ≡ y = omega arith in
        let r : (x + 16777216 * y) % 16777216 ≡ x = omega arith in
        ap (bytes_of 8) e ∙ bytes-parts 3 5 (x + 16777216 * y)
        ∙ ap₂ (λ (a b : List ℕ). a ++ b) (sym (bytes_low 3 (x + 16777216 * y)) ∙ ap (bytes_of 3) r) (ap (bytes_of 5) q ∙ ending f s h k)

-- a decimal of one digit
one_field : (n : ℕ) → n < 10 → field n ≡ space ∷ (48 + n) ∷ []
unfolding field
one_field n h =
    let e : n % 10 ≡ n = omega arith in
    ap (λ (l : List ℕ). 32 ∷ l) (sym (decimal_last 20 n (λ z. absurd (omega arith)) h) ∙ ap (λ (d : ℕ). (48 + d) ∷ []) e)

-- the bytes of a short one, however they are taken together
flat : (a b : List ℕ) (l x y z : ℕ)
    → (space ∷ l ∷ space ∷ a) ++ (b ++ (space ∷ x ∷ space ∷ y ∷ space ∷ [])) ++ (z ∷ []) ++ (newline ∷ [])
    ≡ (space ∷ []) ++ (l ∷ []) ++ (space ∷ []) ++ (a ++ b) ++ (space ∷ x ∷ []) ++ (space ∷ y ∷ []) ++ (space ∷ z ∷ []) ++ (newline ∷ [])
flat a b l x y z = simp append_assoc

-- two words and two bytes
pub short-bytes : (letter value d : ℕ) (c : Columns) → bytes_of 8 d ≡ hex value → c.first < 10 → c.second < 10 → c.third < 10
    → (space ∷ letter ∷ space ∷ bytes_of 5 d) ++ (bytes_of 3 (d / 256 ^ 5) ++ (space ∷ (48 + c.first) ∷ space ∷ (48 + c.second) ∷ space ∷ []))
    ++ ((c.third + 48) ∷ []) ++ (newline ∷ [])
    ≡ behind letter value c
unfolding behind
short-bytes letter value d c e f g h =
    let t : c.third + 48 ≡ 48 + c.third = omega arith in
    let v : hex value ≡ bytes_of 5 d ++ bytes_of 3 (d / 256 ^ 5) = sym e ∙ bytes-parts 5 3 d in
    rw (v, one_field c.first f, one_field c.second g, one_field c.third h, t)
    (flat (bytes_of 5 d) (bytes_of 3 (d / 256 ^ 5)) letter (48 + c.first) (48 + c.second) (48 + c.third))

-- numbers of which no bit from 3 on is set
pub few : (a b c : ℕ) → bit_or (bit_or a b) c < 8 → (a < 8) × (b < 8) × (c < 8)
few a b c h =
    let p = or_add_and a b in
    let q = or_add_and (bit_or a b) c in
    (omega (arith, p, q, and_le_r a b, and_le_r (bit_or a b) c), omega (arith, p, q, and_le_l a b, and_le_r (bit_or a b) c), omega (arith, q, and_le_l (bit_or a b) c))

-- ---- over the number's text

length-behind : (letter value : ℕ) (c : Columns) → 8 ≤ length (behind letter value c)
unfolding behind
length-behind letter value c = simp length-append (omega (arith, length-hex 8 value))

pub numbered : (l : List ℕ) (at d w letter value : ℕ) (c : Columns) (p q : List ℕ × ℕ) → at + 8 ≤ length l → w ≤ 8 → p ≡ write (l, at) (bytes_of 8 d)
    → q ≡ write (p.0, at + w) (behind letter value c) → q ≡ write (l, at) (bytes_of w d ++ behind letter value c)
numbered l at d w letter value c p q h k e f =
    let a = bytes_of w d in
    let g = bytes_of (8 - w) (d / 256 ^ w) in
    let m : length a ≡ w = length-bytes w d in
    let n : length g ≡ 8 - w = length-bytes (8 - w) (d / 256 ^ w) in
    let s : w + (8 - w) ≡ 8 = omega arith in
    let b : bytes_of 8 d ≡ a ++ g = ap (λ (x : ℕ). bytes_of x d) (sym s) ∙ bytes-parts w (8 - w) d in
    f ∙ ap₂ (λ (x : List ℕ × ℕ) (y : ℕ). write (x.0, at + y) (behind letter value c)) (e ∙ ap (write (l, at)) b) (sym m)
    ∙ over l at a g (behind letter value c) (omega (arith, m, n)) (omega (arith, n, length-behind letter value c))

-- the text that a numeral keeps is the line's number
pub as_line : (o q : List ℕ × ℕ) (n letter value : ℕ) (c : Columns) (t : Numeral) → t ≡ numeral_of n → (t.width ≡ 0 → ⊥)
    → q ≡ write o (bytes_of t.width t.digits ++ behind letter value c) → q ≡ write o (line_of n letter value c)
as_line o q n letter value c t e h f =
    f ∙ ap (λ (l : List ℕ). write o (l ++ behind letter value c)) (numeral_text t n e h).1 ∙ ap (write o) (line-parts n letter value c)
