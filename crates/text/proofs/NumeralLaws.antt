-- A number's text in a word: how it is made, and how the next one comes of it.
use Prim.Native.Nat.{ℕ, zero, suc, ◌+◌, ◌-◌, ◌*◌, ◌/◌, ◌%◌, ◌^◌, ◌<◌, ◌≤◌}
use mathlib.Core.Path.{◌≡◌, refl, sym, ap, ap₂, ◌∙◌}
use mathlib.Core.Bool.{Bool}
use mathlib.Core.List.{List, [], ◌∷◌, ◌++◌}
use native.Mathlib.Nat.{pow-succ', mul_assoc, mul-add, mul-le-mul_left}
use native.Mathlib.Decide.{dec_lt}
use native.Mathlib.Omega.{arith}
use lib.ListN.{length, get_or, length-append}
use lib.Dec.{ltb}
use borrow.Author.Tests.{lt-ltb, le-ltb}
use Rattle.words.specs.Choice.{pick}
use Rattle.words.proofs.ChoiceLaws.{pick_true, pick-false, pick-ap}
use Rattle.text.specs.Text.{decimal, decimal_of, last_of}
use Rattle.text.proofs.DigitLaws.{decimal-digits, length-below}
use Rattle.text.specs.declared.room.Numeral.{Numeral}
use Rattle.text.specs.Bytes.{bytes_of}
use Rattle.text.specs.Numeral.{packed, keeps, numeral_of}
use Rattle.text.proofs.BytesLaws.{positive, bytes-first}

-- ---- made anew

pub one-packed : (n : ℕ) → n % 10 + 48 ≡ packed (last_of 1 n)
unfolding packed last_of
one-packed n = omega arith

pub two-packed : (n : ℕ) → n / 10 % 10 + 48 + 256 * (n % 10 + 48) ≡ packed (last_of 2 n)
unfolding packed last_of
two-packed n = omega arith

pub three-packed : (n : ℕ) → n / 100 % 10 + 48 + 256 * (n / 10 % 10 + 48) + 65536 * (n % 10 + 48) ≡ packed (last_of 3 n)
unfolding packed last_of
three-packed n =
    let a : n / 10 / 10 ≡ n / 100 = omega arith in
    rw a (omega arith)

pub four-packed : (n : ℕ)
    → n / 1000 % 10 + 48 + 256 * (n / 100 % 10 + 48) + 65536 * (n / 10 % 10 + 48) + 16777216 * (n % 10 + 48) ≡ packed (last_of 4 n)
unfolding packed last_of
four-packed n =
    let a : n / 10 / 10 ≡ n / 100 = omega arith in
    let b : n / 100 / 10 ≡ n / 1000 = omega arith in
    rw (a, b) (omega arith)

pub five-packed : (n : ℕ)
    → n / 10000 % 10 + 48 + 256 * (n / 1000 % 10 + 48) + 65536 * (n / 100 % 10 + 48) + 16777216 * (n / 10 % 10 + 48) + 4294967296 * (n % 10 + 48)
    ≡ packed (last_of 5 n)
unfolding packed last_of
five-packed n =
    let a : n / 10 / 10 ≡ n / 100 = omega arith in
    let b : n / 100 / 10 ≡ n / 1000 = omega arith in
    let c : n / 1000 / 10 ≡ n / 10000 = omega arith in
    rw (a, b, c) (omega arith)

length_last : (k n : ℕ) → length (last_of k n) ≡ k
unfolding last_of
length_last zero n = refl
length_last (suc k) n = length-append (last_of k (n / 10)) ((48 + n % 10) ∷ []) ∙ omega (arith, length_last k (n / 10))

-- a number of k digits, by their text
pub numeral-made : (n k u : ℕ) (t : Numeral) (d : ℕ) → n < 100000 → last_of k n ≡ decimal n → u ≡ 256 ^ (k - 1) → d ≡ packed (last_of k n)
    → t ≡ record { digits = d; width = k; unit = u; last = n % 10 } → t ≡ numeral_of n
unfolding numeral_of
numeral-made n k u t d h e f g i =
    i ∙ rw (f, g) (ap (λ (w : ℕ). record { digits = packed (last_of k n); width = w; unit = 256 ^ (w - 1); last = n % 10 }) (sym (length_last k n)))
    ∙ ap (λ (l : List ℕ). keeps l (n % 10)) e ∙ pick_true _ (lt-ltb n 100000 h)

pub numeral-none : (n : ℕ) (t : Numeral) → 100000 ≤ n → t ≡ record { digits = 0; width = 0; unit = 0; last = 9 } → t ≡ numeral_of n
unfolding numeral_of
numeral-none n t h e = e ∙ pick-false (keeps (decimal n) (n % 10)) (le-ltb n 100000 h)

-- ---- the next one

-- all digits but the last
abbrev prefix : ℕ → List ℕ
prefix n = pick (ltb n 10) [] (decimal_of 19 (n / 10))

parted : (n : ℕ) → decimal n ≡ prefix n ++ ((48 + n % 10) ∷ [])
unfolding decimal_of
parted n = sym (pick-ap (λ (l : List ℕ). l ++ ((48 + n % 10) ∷ [])) (ltb n 10) [] (decimal_of 19 (n / 10)))

prefix_same : (n : ℕ) → n % 10 < 9 → prefix (n + 1) ≡ prefix n
prefix_same n h = ap₂ (λ (b : Bool) (m : ℕ). pick b [] (decimal_of 19 m)) (go (dec_lt n 10)) e
  where
    e : (n + 1) / 10 ≡ n / 10
    e = omega arith

    go : Dec (n < 10) → ltb (n + 1) 10 ≡ ltb n 10
    go (yes l) = lt-ltb (n + 1) 10 (omega arith) ∙ sym (lt-ltb n 10 l)
    go (no g) = le-ltb (n + 1) 10 (omega arith) ∙ sym (le-ltb n 10 (omega arith))

packed_snoc : (a : List ℕ) (x : ℕ) → packed (a ++ (x ∷ [])) ≡ packed a + 256 ^ length a * x
unfolding packed
packed_snoc [] x = omega arith
packed_snoc (b ∷ a) x =
    let q : 256 ^ suc (length a) * x ≡ 256 * (256 ^ length a * x) = ap (λ (p : ℕ). p * x) (pow-succ' 256 (length a)) ∙ mul_assoc 256 (256 ^ length a) x in
    omega (arith, packed_snoc a x, q)

-- a text and its last byte
ended : (a : List ℕ) (x last : ℕ) → keeps (a ++ (x ∷ [])) last ≡ record { digits = packed a + 256 ^ length a * x; width = length a + 1; unit = 256 ^ length a; last = last }
ended a x last =
    let e : length (a ++ (x ∷ [])) ≡ length a + 1 = length-append a (x ∷ []) in
    let f : length a + 1 - 1 ≡ length a = omega arith in
    rw (packed_snoc a x, e, f)

-- the last byte is one more
raised : (a : List ℕ) (x last : ℕ) (t : Numeral) → t ≡ keeps (a ++ (x ∷ [])) last
    → record { digits = t.digits + t.unit; width = t.width; unit = t.unit; last = t.last + 1 } ≡ keeps (a ++ ((x + 1) ∷ [])) (last + 1)
raised a x last t e =
    let m : packed a + 256 ^ length a * x + 256 ^ length a ≡ packed a + 256 ^ length a * (x + 1) = rw (mul-add (256 ^ length a) x 1) (omega arith) in
    ap (λ (s : Numeral). record { digits = s.digits + s.unit; width = s.width; unit = s.unit; last = s.last + 1 }) (e ∙ ended a x last)
    ∙ ap (λ (d : ℕ). record { digits = d; width = length a + 1; unit = 256 ^ length a; last = last + 1 }) m ∙ sym (ended a (x + 1) (last + 1))

-- a numeral that keeps a text
pub short : (t : Numeral) (n : ℕ) → t ≡ numeral_of n → (t.last ≡ 9 → ⊥) → (n < 100000) × (t ≡ keeps (decimal n) (n % 10))
unfolding numeral_of
short t n e h = go (dec_lt n 100000)
  where
    go : Dec (n < 100000) → (n < 100000) × (t ≡ keeps (decimal n) (n % 10))
    go (yes l) = (l, e ∙ sym (pick_true (record { digits = 0; width = 0; unit = 0; last = 9 }) (lt-ltb n 100000 l)))
    go (no g) = absurd (h (ap (λ (s : Numeral). s.last) (e ∙ sym (pick-false (keeps (decimal n) (n % 10)) (le-ltb n 100000 (omega arith))))))

pub numeral_next : (t : Numeral) (n : ℕ) → t ≡ numeral_of n → (t.last ≡ 9 → ⊥)
    → record { digits = t.digits + t.unit; width = t.width; unit = t.unit; last = t.last + 1 } ≡ numeral_of (n + 1)
unfolding numeral_of
numeral_next t n e h =
    let s = short t n e h in
    let d : n % 10 < 9 = below n (λ (z : n % 10 ≡ 9). h (ap (λ (x : Numeral). x.last) s.1 ∙ z)) in
    let m : (n + 1) % 10 ≡ n % 10 + 1 = omega arith in
    let x : 48 + (n + 1) % 10 ≡ 48 + n % 10 + 1 = omega arith in
    raised (prefix n) (48 + n % 10) (n % 10) t (s.1 ∙ ap (λ (l : List ℕ). keeps l (n % 10)) (parted n))
    ∙ sym (ap (λ (l : List ℕ). keeps l ((n + 1) % 10)) (parted (n + 1)) ∙ rw (prefix_same n d, x, m))
    ∙ pick_true (record { digits = 0; width = 0; unit = 0; last = 9 }) (lt-ltb (n + 1) 100000 (omega (arith, s.0)))
  where
    below : (k : ℕ) → (k % 10 ≡ 9 → ⊥) → k % 10 < 9
    below k f = go (dec_lt (k % 10) 9)
      where
        go : Dec (k % 10 < 9) → k % 10 < 9
        go (yes l) = l
        go (no g) = absurd (f (omega arith))

-- ---- its bytes

abbrev Bytes : List ℕ → Type 0
Bytes l = (k : ℕ) → k < length l → get_or l k 0 < 256

decimal-bytes : (n : ℕ) → Bytes (decimal n)
decimal-bytes n k h = omega (arith, (decimal-digits 20 n k h).1)

unpacked : (l : List ℕ) → Bytes l → bytes_of (length l) (packed l) ≡ l
unfolding packed bytes_of
unpacked [] h = refl
unpacked (x ∷ l) h = bytes-first (length l) x (packed l) (h 0 (omega arith)) ∙ ap (λ (r : List ℕ). x ∷ r) (unpacked l (λ k m. h (suc k) (omega arith)))

bounded : (l : List ℕ) (k : ℕ) → Bytes l → length l ≤ k → packed l < 256 ^ k
unfolding packed
bounded [] k h m = positive k
bounded (x ∷ l) zero h m = absurd (omega arith)
bounded (x ∷ l) (suc k) h m =
    let p : packed l < 256 ^ k = bounded l k (λ j n. h (suc j) (omega arith)) (omega arith) in
    let q : x < 256 = h 0 (omega arith) in
    omega (arith, p, q, pow-succ' 256 k)

-- the text that a numeral keeps
pub numeral_text : (t : Numeral) (n : ℕ) → t ≡ numeral_of n → (t.width ≡ 0 → ⊥) → (t.width ≤ 8) × (bytes_of t.width t.digits ≡ decimal n)
unfolding numeral_of
numeral_text t n e h = go (dec_lt n 100000)
  where
    go : Dec (n < 100000) → (t.width ≤ 8) × (bytes_of t.width t.digits ≡ decimal n)
    go (yes l) =
        let k = e ∙ sym (pick_true (record { digits = 0; width = 0; unit = 0; last = 9 }) (lt-ltb n 100000 l)) in
        rw k (omega (arith, length-below 20 5 n (omega arith) (omega arith)), unpacked (decimal n) (decimal-bytes n))
    go (no g) = absurd (h (ap (λ (s : Numeral). s.width) (e ∙ sym (pick-false (keeps (decimal n) (n % 10)) (le-ltb n 100000 (omega arith))))))

-- there is room for the next one
pub numeral-fits : (t : Numeral) (n : ℕ) → t ≡ numeral_of n → (t.last ≡ 9 → ⊥) → (t.digits + t.unit < 2 ^ 64) × (t.last < 9)
numeral-fits t n e h =
    let s = short t n e h in
    let k = s.1 ∙ ap (λ (l : List ℕ). keeps l (n % 10)) (parted n) ∙ ended (prefix n) (48 + n % 10) (n % 10) in
    let p = prefix n in
    let d : packed p + 256 ^ length p * (48 + n % 10) ≡ packed (decimal n) = sym (ap packed (parted n) ∙ packed_snoc p (48 + n % 10)) in
    let b : packed (decimal n) < 256 ^ 5 = bounded (decimal n) 5 (decimal-bytes n) (length-below 20 5 n (omega arith) (omega (arith, s.0))) in
    let u : 256 ^ length p * 1 ≤ 256 ^ length p * (48 + n % 10) = mul-le-mul_left (256 ^ length p) (omega arith) in
    let l : t.last ≡ n % 10 = ap (λ (x : Numeral). x.last) k in
    let not9 : n % 10 ≡ 9 → ⊥ = λ z. h (l ∙ z) in
    (rw k (omega (arith, d, b, u)), omega (arith, l, not9))
