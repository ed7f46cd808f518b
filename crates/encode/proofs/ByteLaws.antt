-- The bytes of numbers: their groups, how many there are, and one number more.
use Prim.Native.Nat.{ℕ, zero, suc, ◌+◌, ◌-◌, ◌*◌, ◌/◌, ◌%◌, ◌≤◌, ◌<◌}
use mathlib.Core.Path.{◌≡◌, refl, sym, ap, ◌∙◌}
use mathlib.Core.List.{List, [], ◌∷◌, ◌++◌, append-nil, append_assoc}
use native.Mathlib.Omega.{arith}
use lib.Dec.{ltb}
use lib.ListN.{length, length-append}
use borrow.Author.Tests.{lt-ltb, le-ltb}
use Rattle.words.proofs.ChoiceLaws.{pick_true, pick-false, pick_cases}
use Rattle.encode.specs.Bytes.{groups, shortest, bytes_of}

-- ---- groups

pub groups_none : (most v : ℕ) → most ≡ 0 → [] ≡ groups most v
unfolding groups
groups_none zero v e = refl
groups_none (suc n) v e = absurd (omega arith)

pub groups_last : (most v : ℕ) → (most ≡ 0 → ⊥) → v < 128 → (v ∷ []) ≡ groups most v
unfolding groups
groups_last zero v e h = absurd (e refl)
groups_last (suc n) v e h = pick_true _ (lt-ltb v 128 h)

pub groups-more : (most v : ℕ) → (most ≡ 0 → ⊥) → 128 ≤ v → ((128 + v % 128) ∷ groups (most - 1) (v / 128)) ≡ groups most v
unfolding groups
groups-more zero v e h = absurd (e refl)
groups-more (suc n) v e h =
    let q : suc n - 1 ≡ n = omega arith in
    ap (λ (m : ℕ). (128 + v % 128) ∷ groups m (v / 128)) q ∙ pick-false _ (le-ltb v 128 h)

-- ---- how many

pub size-one : (most v : ℕ) → v < 128 → 1 ≡ length (groups (suc most) v)
size-one most v h = ap length (groups_last (suc most) v (λ e. omega arith) h)

pub size-more : (most v n : ℕ) → 128 ≤ v → n ≡ length (groups most (v / 128)) → suc n ≡ length (groups (suc most) v)
unfolding groups
size-more most v n h e = ap suc e ∙ ap length (pick-false _ (le-ltb v 128 h))

pub size_last : (v : ℕ) → 1 ≡ length (groups 1 v)
unfolding groups
size_last v = pick_cases (λ (l : List ℕ). 1 ≡ length l) (ltb v 128) (λ e. refl) (λ e. refl)

pub groups-most : (most v : ℕ) → length (groups most v) ≤ most
unfolding groups
groups-most zero v = omega arith
groups-most (suc n) v = pick_cases (λ (l : List ℕ). length l ≤ suc n) (ltb v 128) (λ e. omega arith) (λ e. omega (arith, groups-most n (v / 128)))

-- ---- one after the other

pub bytes_append : (a b : List ℕ) → bytes_of (a ++ b) ≡ bytes_of a ++ bytes_of b
unfolding bytes_of
bytes_append [] b = refl
bytes_append (v ∷ a) b = ap (λ (l : List ℕ). shortest v ++ l) (bytes_append a b) ∙ sym (append_assoc (shortest v) (bytes_of a) (bytes_of b))

pub bytes_one : (v : ℕ) → bytes_of (v ∷ []) ≡ shortest v
unfolding bytes_of
bytes_one v = append-nil (shortest v)

pub bytes_snoc : (a : List ℕ) (v : ℕ) → bytes_of (a ++ (v ∷ [])) ≡ bytes_of a ++ shortest v
bytes_snoc a v = bytes_append a (v ∷ []) ∙ ap (λ (l : List ℕ). bytes_of a ++ l) (bytes_one v)

pub bytes_most : (vs : List ℕ) → length (bytes_of vs) ≤ 5 * length vs
unfolding bytes_of
bytes_most [] = omega arith
bytes_most (v ∷ vs) = simp length-append (omega (arith, groups-most 5 v, bytes_most vs))
