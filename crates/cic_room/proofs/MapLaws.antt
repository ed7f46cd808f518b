-- A byte of a map in its word, and the word of a register that is written.
use mathlib.Core.Path.{◌≡◌, refl, sym, ap, subst, ◌∙◌}
use mathlib.Core.List.{List}
use Prim.Native.Nat.{ℕ, ◌+◌, ◌-◌, ◌*◌, ◌/◌, ◌%◌, ◌<◌, ◌≤◌}
use native.Mathlib.Decide.{dec_lt, ℕ_discrete}
use native.Mathlib.Nat.{mod-lt}
use native.Mathlib.Omega.{arith}
use borrow.Author.Tests.{lt-ltb}
use lib.Dec.{ltb}
use lib.ListN.{get_or, length}
use Rattle.words.specs.Array.{byte_of}
use Rattle.words.specs.Choice.{pick}
use Rattle.words.specs.Word.{kept}
use Rattle.words.proofs.ArrayLaws.{byte_of_lt}
use Rattle.cic_registers.specs.Maps.{byte_read, map_read, map_put}
use Rattle.cic_registers.proofs.MapLaws.{read_four, read_there}
use Rattle.cic_registers.proofs.MapsPromises as of-maps

pub byte_in : (n : ℕ) (m : List ℕ) (s : ℕ) → ((i : ℕ) → get_or m i 0 < 256) → s < n → byte_of (map_read n m (s / 4)) (s % 4) ≡ get_or m s 0
byte_in n m s b l =
    let e : 4 * (s / 4) + s % 4 ≡ s = omega arith in
    (of-maps.kept).reads n m (s / 4) (s % 4) b (mod-lt s (omega arith)) (omega (arith, e, l)) ∙ ap (λ (x : ℕ). get_or m x 0) e

-- the four bytes of a word
record Four (v : ℕ) : Type 0 where
  p : ℕ
  q : ℕ
  r : ℕ
  s : ℕ
  whole : v ≡ p + q * 256 + r * 65536 + s * 16777216
  first : byte_of v 0 ≡ p
  second : byte_of v 1 ≡ q
  third : byte_of v 2 ≡ r
  fourth : byte_of v 3 ≡ s
  one : kept 8 v ≡ p
  two : kept 16 v ≡ p + q * 256
  three : kept 24 v ≡ p + q * 256 + r * 65536

module _ (p q r s : ℕ) (a : p < 256) (b : q < 256) (c : r < 256) (d : s < 256) where
  four_of : Four (p + q * 256 + r * 65536 + s * 16777216)
  unfolding byte_of kept
  four_of = record { p = p; q = q; r = r; s = s; whole = refl; first = omega arith; second = omega arith; third = omega arith; fourth = omega arith; one = omega arith; two = omega arith; three = omega arith }

four : (v : ℕ) → v < 4294967296 → Four v
four v l =
    let e : v % 256 + v / 256 % 256 * 256 + v / 256 / 256 % 256 * 65536 + v / 256 / 256 / 256 * 16777216 ≡ v = omega arith in
    subst Four e (four_of (v % 256) (v / 256 % 256) (v / 256 / 256 % 256) (v / 256 / 256 / 256) (omega arith) (omega arith) (omega arith) (omega arith))

-- ---- register k of a map of size bytes, n of which are in use, is written

module _ (size n k v : ℕ) (m : List ℕ) (long : length m ≡ size) (fits : 4 * k + 3 < size) where
  abbrev new : List ℕ
  new = map_put n k v m

  pub new_long : length new ≡ size
  new_long = (of-maps.kept).puts_length n k v m ∙ long

  -- the bytes of other registers stay
  pub new-other : (i : ℕ) → (i / 4 ≡ k → ⊥) → get_or m i 0 ≡ get_or new i 0
  new-other i o = sym ((of-maps.kept).puts_no_other n k v m i o)

  -- all are bytes
  pub new-bytes : ((i : ℕ) → get_or m i 0 < 256) → (i : ℕ) → get_or new i 0 < 256
  new-bytes b i = go (ℕ_discrete (i / 4) k) (dec_lt i n)
    where
      go : Dec (i / 4 ≡ k) → Dec (i < n) → get_or new i 0 < 256
      go (no o) _ = omega (arith, b i, new-other i o)
      go (yes e) (no l) = omega (arith, b i, (of-maps.kept).puts_no_spare n k v m i (omega (arith, l)))
      go (yes e) (yes l) =
          let q : 4 * k + i % 4 ≡ i = omega (arith, e) in
          let low : i % 4 < 4 = mod-lt i (omega arith) in
          let p : get_or new i 0 ≡ byte_of v (i % 4) = ap (λ (x : ℕ). get_or new x 0) (sym q) ∙ (of-maps.kept).puts n k v m (i % 4) (mod-lt i (omega arith)) (omega (arith, q, l)) (omega (arith, q, fits, long, low)) in
          omega (arith, p, byte_of_lt v (i % 4))

  -- the words of other registers stay
  pub new_words : (j : ℕ) → (j ≡ k → ⊥) → map_read size m j ≡ map_read size new j
  unfolding byte_read
  new_words j o =
      sym (read_four size m j (byte_read size m j 0) (byte_read size m j 1) (byte_read size m j 2) (byte_read size m j 3) refl refl refl refl)
      ∙ read_four size new j (byte_read size m j 0) (byte_read size m j 1) (byte_read size m j 2) (byte_read size m j 3) (same 0 (omega arith)) (same 1 (omega arith)) (same 2 (omega arith)) (same 3 (omega arith))
    where
      same : (i : ℕ) → i < 4 → byte_read size m j i ≡ byte_read size new j i
      same i l = ap (λ (x : ℕ). pick (ltb (4 * j + i) size) x 0) (new-other (4 * j + i) (λ q. o (omega (arith, q, l))))

  -- its own word: the bytes that are not spare
  pub new_word : (r : ℕ) → 4 * k < n → v < 4294967296 → ((i : ℕ) → n ≤ i → i < size → get_or m i 0 ≡ 0) → (4 ≤ n - 4 * k → r ≡ v) → (n - 4 * k < 4 → r ≡ kept (8 * (n - 4 * k)) v) → r ≡ map_read size new k
  new_word r some w z whole part = go (dec_lt (4 * k + 3) n) (dec_lt (4 * k + 2) n) (dec_lt (4 * k + 1) n) ∙ read_four size new k _ _ _ _ (there 0 (omega arith)) (there 1 (omega arith)) (there 2 (omega arith)) (there 3 (omega arith))
    where
      f : Four v
      f = four v w

      there : (j : ℕ) → j < 4 → get_or new (4 * k + j) 0 ≡ byte_read size new k j
      there j l = read_there size new k j (4 * k + j) refl refl (lt-ltb (4 * k + j) size (omega (arith, l, fits)))

      put : (j : ℕ) → j < 4 → 4 * k + j < n → get_or new (4 * k + j) 0 ≡ byte_of v j
      put j l b = (of-maps.kept).puts n k v m j l b (omega (arith, l, fits, long))

      none : (j : ℕ) → j < 4 → n ≤ 4 * k + j → get_or new (4 * k + j) 0 ≡ 0
      none j l b = (of-maps.kept).puts_no_spare n k v m (4 * k + j) b ∙ z (4 * k + j) b (omega (arith, l, fits))

      cut : (x : ℕ) → n - 4 * k ≡ x → x < 4 → r ≡ kept (8 * x) v
      cut x e l = part (omega (arith, e, l)) ∙ ap (λ (y : ℕ). kept (8 * y) v) e

      go : Dec (4 * k + 3 < n) → Dec (4 * k + 2 < n) → Dec (4 * k + 1 < n)
          → r ≡ get_or new (4 * k + 0) 0 + get_or new (4 * k + 1) 0 * 256 + get_or new (4 * k + 2) 0 * 65536 + get_or new (4 * k + 3) 0 * 16777216
      go (yes a) _ _ = omega (arith, whole (omega (arith, a)), f.whole, f.first, f.second, f.third, f.fourth, put 0 (omega arith) (omega (arith, a)), put 1 (omega arith) (omega (arith, a)), put 2 (omega arith) (omega (arith, a)), put 3 (omega arith) a)
      go (no a) (yes b) _ =
          omega (arith, cut 3 (omega (arith, a, b)) (omega arith), f.three, f.first, f.second, f.third, put 0 (omega arith) (omega (arith, b)), put 1 (omega arith) (omega (arith, b)), put 2 (omega arith) b, none 3 (omega arith) (omega (arith, a)))
      go (no a) (no b) (yes d) =
          omega (arith, cut 2 (omega (arith, b, d)) (omega arith), f.two, f.first, f.second, put 0 (omega arith) (omega (arith, d)), put 1 (omega arith) d, none 2 (omega arith) (omega (arith, b)), none 3 (omega arith) (omega (arith, a)))
      go (no a) (no b) (no d) =
          omega (arith, cut 1 (omega (arith, d, some)) (omega arith), f.one, f.first, put 0 (omega arith) (omega (arith, some)), none 1 (omega arith) (omega (arith, d)), none 2 (omega arith) (omega (arith, b)), none 3 (omega arith) (omega (arith, a)))
