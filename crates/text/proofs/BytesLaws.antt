-- The bytes of words: those of one word in two parts, and of a word that is put together from two.
use Prim.Native.Nat.{ℕ, zero, suc, ◌+◌, ◌*◌, ◌/◌, ◌%◌, ◌^◌, ◌<◌}
use mathlib.Core.Path.{◌≡◌, refl, sym, ap, ap₂, ◌∙◌}
use mathlib.Core.List.{List, ◌∷◌, ◌++◌}
use native.Mathlib.Nat.{div-div-eq-div-mul, pow-succ', div-one, zero-add, pow-suc}
use native.Mathlib.Omega.{arith}
use lib.Arith.{mod-mul}
use lib.ListN.{length}
use Rattle.text.specs.Bytes.{bytes_of}

pub positive : (k : ℕ) → 0 < 256 ^ k
positive zero = omega arith
positive (suc k) = omega (arith, positive k, pow-succ' 256 k)

pub length-bytes : (k w : ℕ) → length (bytes_of k w) ≡ k
unfolding bytes_of
length-bytes zero w = refl
length-bytes (suc k) w = ap suc (length-bytes k (w / 256))

-- the first k bytes, and the others
pub bytes-parts : (k j w : ℕ) → bytes_of (k + j) w ≡ bytes_of k w ++ bytes_of j (w / 256 ^ k)
unfolding bytes_of
bytes-parts zero j w = ap₂ bytes_of (zero-add j) (sym (div-one w))
bytes-parts (suc k) j w =
    let e : suc k + j ≡ suc (k + j) = omega arith in
    ap (λ (n : ℕ). bytes_of n w) e ∙ ap (λ (l : List ℕ). w % 256 ∷ l) (bytes-parts k j (w / 256))
    ∙ ap (λ (x : ℕ). w % 256 ∷ (bytes_of k (w / 256) ++ bytes_of j x)) (div-div-eq-div-mul w 256 (256 ^ k) ∙ ap (λ (x : ℕ). w / x) (sym (pow-succ' 256 k)))

-- a byte before the others
pub bytes-first : (k b w : ℕ) → b < 256 → bytes_of (suc k) (b + 256 * w) ≡ b ∷ bytes_of k w
unfolding bytes_of
bytes-first k b w h =
    let e : (b + 256 * w) % 256 ≡ b = omega arith in
    let f : (b + 256 * w) / 256 ≡ w = omega arith in
    ap₂ (λ (x y : ℕ). x ∷ bytes_of k y) e f

-- the bytes from k on do not count
pub bytes_low : (k w : ℕ) → bytes_of k (w % 256 ^ k) ≡ bytes_of k w
unfolding bytes_of
bytes_low zero w = refl
bytes_low (suc k) w =
    let e : w % 256 ^ suc k ≡ w / 256 % 256 ^ k * 256 + w % 256 = ap (λ (m : ℕ). w % m) (pow-suc 256 k) ∙ mod-mul w (positive k) (omega arith) in
    let f : w % 256 ^ suc k % 256 ≡ w % 256 = rw e (omega arith) in
    let g : w % 256 ^ suc k / 256 ≡ w / 256 % 256 ^ k = rw e (omega arith) in
    ap₂ (λ (x : ℕ) (l : List ℕ). x ∷ l) f (ap (bytes_of k) g ∙ bytes_low k (w / 256))
