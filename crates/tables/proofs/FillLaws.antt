-- An array that is filled from its start on.
use Prim.Native.Nat.{ℕ, zero, suc, ◌+◌, ◌-◌, ◌≤◌, ◌<◌}
use mathlib.Core.Path.{◌≡◌, refl, sym, ap, ◌∙◌}
use mathlib.Core.List.{List, [], ◌∷◌, ◌++◌, append-nil}
use native.Mathlib.Numerals.{add-one}
use native.Mathlib.Omega.{arith}
use native.Mathlib.Decide.{ℕ_discrete}
use lib.ListN.{length, get_or, set, replicate, length-append, get_or-append}
use lib.Seq.{set_at, append_snoc, get_or_at}
use Rattle.tables.specs.Reading.{list_of}
use Rattle.tables.specs.Passes.{room}

pub length-list_of : (n : ℕ) (f : ℕ → ℕ) → length (list_of n f) ≡ n
unfolding list_of
length-list_of zero f = refl
length-list_of (suc n) f = length-append (list_of n f) (f n ∷ []) ∙ omega (arith, length-list_of n f)

pub get_d-list_of : (n : ℕ) (f : ℕ → ℕ) (i : ℕ) → i < n → get_or (list_of n f) i 0 ≡ f i
unfolding list_of
get_d-list_of zero f i l = absurd (omega arith)
get_d-list_of (suc n) f i l = go (ℕ_discrete i n) (get_d-list_of n f i)
  where
    go : Dec (i ≡ n) → (i < n → get_or (list_of n f) i 0 ≡ f i) → get_or (list_of n f ++ (f n ∷ [])) i 0 ≡ f i
    go (yes e) ih = rw e (get_or_at (list_of n f) (f n) [] 0 n (length-list_of n f))
    go (no d) ih = get_or-append (list_of n f) (f n ∷ []) 0 i (omega (arith, length-list_of n f)) ∙ ih (omega arith)

pub list_of-same : (n : ℕ) (f g : ℕ → ℕ) → ((i : ℕ) → i < n → f i ≡ g i) → list_of n f ≡ list_of n g
unfolding list_of
list_of-same zero f g h = refl
list_of-same (suc n) f g h = rw (list_of-same n f g (λ i l. h i (omega arith)), h n (omega arith))

-- before the first turn
pub room-none : (m : ℕ) (f : ℕ → ℕ) → replicate m 0 ≡ room m 0 f
unfolding room list_of
room-none m f = let e : m ≡ m - 0 = omega arith in ap (λ (k : ℕ). replicate k 0) e

-- a turn: x is the next one
pub room-more : (m n : ℕ) (f : ℕ → ℕ) (l : List ℕ) (x : ℕ) → n < m → l ≡ room m n f → x ≡ f n → set l n x ≡ room m (n + 1) f
unfolding room list_of
room-more m n f l x h e q =
    let r : m - n ≡ suc (m - suc n) = omega arith in
    rw (e, q, r, add-one n, set_at (list_of n f) 0 (replicate (m - suc n) 0) (f n) n (length-list_of n f)) (sym (append_snoc (list_of n f) (f n) (replicate (m - suc n) 0)))

-- the end
pub room_full : (m n : ℕ) (f : ℕ → ℕ) → m ≤ n → n ≤ m → room m n f ≡ list_of m f
unfolding room
room_full m n f a b =
    let e : n ≡ m = omega arith in
    let z : m - m ≡ 0 = omega arith in
    rw (e, z) (append-nil (list_of m f))
