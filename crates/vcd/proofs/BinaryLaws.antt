-- Binary digits, one at a time, how many there are and what they are worth.
use Prim.Native.Nat.{ℕ, zero, suc, ◌+◌, ◌-◌, ◌*◌, ◌/◌, ◌%◌, ◌^◌, ◌<◌, ◌≤◌}
use mathlib.Core.Path.{◌≡◌, refl, sym, ap, ◌∙◌}
use mathlib.Core.List.{List, [], ◌∷◌, ◌++◌}
use native.Mathlib.Nat.{mod-eq_of_lt, two-pow-succ}
use native.Mathlib.Numerals.{add-one, sub-one}
use native.Mathlib.Omega.{arith}
use lib.Dec.{ltb}
use lib.ListN.{length, get_or, length-append}
use lib.Pow.{pow_pos, mod-pow-add}
use borrow.Author.Tests.{lt-ltb, le-ltb, ltb-true, ltb-false, ne_eqb}
use Rattle.words.specs.Choice.{pick}
use Rattle.words.proofs.ChoiceLaws.{pick_true, pick-false, pick_cases}
use Rattle.vcd.specs.Dump.{binary_of}
use Rattle.vcd.specs.Replay.{digits_after}

-- ---- one digit at a time, as the code goes

pub binary-none : (k v : ℕ) → k ≡ 0 → [] ≡ binary_of k v
unfolding binary_of
binary-none zero v e = refl
binary-none (suc k) v e = absurd (omega arith)

pub binary_last : (k v : ℕ) → (k ≡ 0 → ⊥) → v < 2 → (48 + v % 2) ∷ [] ≡ binary_of k v
unfolding binary_of
binary_last zero v h l = absurd (h refl)
binary_last (suc k) v h l = pick_true (binary_of k (v / 2) ++ ((48 + v % 2) ∷ [])) (lt-ltb v 2 l)

pub binary-more : (k v : ℕ) → (k ≡ 0 → ⊥) → 2 ≤ v → binary_of (k - 1) (v / 2) ++ ((48 + v % 2) ∷ []) ≡ binary_of k v
unfolding binary_of
binary-more zero v h l = absurd (h refl)
binary-more (suc k) v h l = rw sub-one (pick-false ((48 + v % 2) ∷ []) (le-ltb v 2 l))

-- ---- how many, and which

pub length_binary : (k v : ℕ) → length (binary_of k v) ≤ k
unfolding binary_of
length_binary zero v = omega arith
length_binary (suc k) v =
    let h : length (binary_of k (v / 2)) ≤ k = length_binary k (v / 2) in
    pick_cases (λ (l : List ℕ). length l ≤ suc k) (ltb v 2) (λ e. omega arith) (λ e. simp length-append (omega arith))

pub some-digit : (k v : ℕ) → 0 < k → 0 < length (binary_of k v)
unfolding binary_of
some-digit zero v h = absurd (omega arith)
some-digit (suc k) v h = pick_cases (λ (x : List ℕ). 0 < length x) (ltb v 2) (λ e. omega arith) (λ e. simp length-append (omega arith))

-- every byte is 0 or 1
abbrev Bits : List ℕ → Type 0
Bits l = (k : ℕ) → k < length l → (48 ≤ get_or l k 0) × (get_or l k 0 ≤ 49)

bits_snoc : (l : List ℕ) (v : ℕ) → Bits l → Bits (l ++ ((48 + v % 2) ∷ []))
bits_snoc [] v h zero m = (omega arith, omega arith)
bits_snoc [] v h (suc k) m = absurd (omega arith)
bits_snoc (x ∷ l) v h zero m = h zero (omega arith)
bits_snoc (x ∷ l) v h (suc k) m = bits_snoc l v (λ j i. h (suc j) (omega arith)) k (omega arith)

pub binary-bytes : (w v : ℕ) → Bits (binary_of w v)
unfolding binary_of
binary-bytes zero v = λ k l. absurd (omega arith)
binary-bytes (suc w) v =
    pick_cases Bits (ltb v 2) (λ e. bits_snoc [] v (λ k l. absurd (omega arith))) (λ e. bits_snoc (binary_of w (v / 2)) v (binary-bytes w (v / 2)))

-- the first byte stays as more follow
first_snoc : (l : List ℕ) (b : ℕ) → 0 < length l → get_or (l ++ (b ∷ [])) 0 0 ≡ get_or l 0 0
first_snoc [] b h = absurd (omega arith)
first_snoc (x ∷ l) b h = refl

-- digits that hold a value other than 0 begin with 1
begins : (w v : ℕ) → v < 2 ^ w → 0 < v → get_or (binary_of w v) 0 0 ≡ 49
unfolding binary_of
begins zero v h p = absurd (omega arith)
begins (suc w) v h p =
    pick_cases (λ (l : List ℕ). get_or l 0 0 ≡ 49) (ltb v 2) (λ e. omega (arith, ltb-true v 2 e))
    (λ e.
    let m : v / 2 < 2 ^ w = omega (arith, two-pow-succ w) in
    let some : 0 < w = wide w (v / 2) m (omega (arith, ltb-false v 2 e)) in
    first_snoc (binary_of w (v / 2)) (48 + v % 2) (some-digit w (v / 2) some) ∙ begins w (v / 2) m (omega (arith, ltb-false v 2 e)))
  where
    wide : (k u : ℕ) → u < 2 ^ k → 0 < u → 0 < k
    wide zero u l q = absurd (omega arith)
    wide (suc k) u l q = omega arith

one-digit : (w : ℕ) → length (binary_of w 0) ≤ 1
unfolding binary_of pick
one-digit zero = omega arith
one-digit (suc w) = omega arith

pub shortest : (w v : ℕ) → v < 2 ^ w → 1 < length (binary_of w v) → get_or (binary_of w v) 0 0 ≡ 49
shortest w zero h l = absurd (omega (arith, one-digit w))
shortest w (suc v) h l = begins w (suc v) h (omega arith)

-- ---- what they are worth

-- digits behind some that are worth u
unfoldable worth : ℕ → List ℕ → ℕ
worth u [] = u
worth u (b ∷ bs) = worth (2 * u + (b - 48)) bs

worth_snoc : (u : ℕ) (a : List ℕ) (b : ℕ) → worth u (a ++ (b ∷ [])) ≡ 2 * worth u a + (b - 48)
unfolding worth
worth_snoc u [] b = refl
worth_snoc u (x ∷ a) b = worth_snoc (2 * u + (x - 48)) a b

-- one bit more
mod-more : (w v : ℕ) → v % 2 ^ suc w ≡ v / 2 % 2 ^ w * 2 + v % 2
mod-more w v = ap (λ (n : ℕ). v % 2 ^ n) (sym (add-one w)) ∙ mod-pow-add v w 1

binary-worth : (w v : ℕ) → worth 0 (binary_of w v) ≡ v % 2 ^ w
unfolding binary_of worth
binary-worth zero v = omega arith
binary-worth (suc w) v =
    pick_cases (λ (x : List ℕ). worth 0 x ≡ v % 2 ^ suc w) (ltb v 2)
    (λ e.
    let l : v < 2 = ltb-true v 2 e in
    let m : v % 2 ^ suc w ≡ v = mod-eq_of_lt (omega (arith, pow_pos w, two-pow-succ w)) in
    omega (arith, m, l))
    (λ e. worth_snoc 0 (binary_of w (v / 2)) (48 + v % 2) ∙ omega (arith, binary-worth w (v / 2), mod-more w v))

worth-read : (u i : ℕ) (l : List ℕ) → Bits l → digits_after u (l ++ (32 ∷ i ∷ [])) ≡ (worth u l, i)
unfolding digits_after worth pick
worth-read u i [] h = refl
worth-read u i (b ∷ l) h =
    let m : 48 ≤ b = (h 0 (omega arith)).0 in
    rw (ne_eqb b 32 (λ e. omega arith)) (worth-read (2 * u + (b - 48)) i l (λ k n. h (suc k) (omega arith)))

-- digits, a space and an identifier are read as the value's bits and the identifier
pub digits-read : (w v i : ℕ) → digits_after 0 (binary_of w v ++ (32 ∷ i ∷ [])) ≡ (v % 2 ^ w, i)
digits-read w v i = worth-read 0 i (binary_of w v) (binary-bytes w v) ∙ ap (λ (x : ℕ). (x, i)) (binary-worth w v)
