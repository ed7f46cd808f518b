-- What the hold of one host is after others end: of a host set or cleared by index, and of a word of hosts.
use mathlib.Core.Bool.{true, false}
use mathlib.Core.List.{List, [], ◌∷◌}
use mathlib.Core.Logic.{◌≢◌, ◌⊎◌, inl, inr}
use mathlib.Core.Path.{◌≡◌, refl}
use Prim.Native.Nat.{ℕ, zero, suc, ◌/◌, ◌%◌}
use native.Mathlib.Decide.{ℕ_discrete}
use lib.ListN.{get_or, set}
use lib.Seq.{get_or-set_other}
use Rattle.words.specs.Word.{bit}
use Rattle.words.proofs.TruthLaws.{told, clash}
use Rattle.cic_held.specs.Held.{freed_hosts}
use Rattle.cic_held.proofs.Promises as of-held

-- a hold ends exactly if E, else it stays as it was
pub data Decided (E : Type 0) (after before : ℕ) : Type 0 where
  ended : E → after ≡ 0 → Decided E after before
  stayed : (E → ⊥) → after ≡ before → Decided E after before

-- ---- by index

pub set_here : (xs : List ℕ) (n : ℕ) → get_or (set xs n 0) n 0 ≡ 0
set_here [] n = refl
set_here (x ∷ xs) zero = refl
set_here (x ∷ xs) (suc n) = set_here xs n

pub set_other : (xs : List ℕ) (n h : ℕ) → h ≢ n → get_or (set xs n 0) h 0 ≡ get_or xs h 0
set_other xs n h d = get_or-set_other xs n h 0 0 d

-- ---- a word of hosts

-- the hold of host h ends exactly if it is of this word and its bit is 1
pub freed : (k v : ℕ) (h : ℕ) (xs : List ℕ) → Decided ((h / 32 ≡ k) × (bit v (h % 32) ≡ true)) (get_or (freed_hosts k v xs) h 0) (get_or xs h 0)
freed k v h xs = go (ℕ_discrete (h / 32) k) (told (bit v (h % 32)))
  where
    go : Dec (h / 32 ≡ k) → (bit v (h % 32) ≡ true) ⊎ (bit v (h % 32) ≡ false) → Decided ((h / 32 ≡ k) × (bit v (h % 32) ≡ true)) (get_or (freed_hosts k v xs) h 0) (get_or xs h 0)
    go (yes e) (inl t) = ended (e, t) ((of-held.kept).freed_ends k v xs h e t)
    go (yes e) (inr f) = let d : (h / 32 ≡ k) × (bit v (h % 32) ≡ true) → ⊥ = λ x. clash x.1 f in stayed d ((of-held.kept).freed_stays k v xs h d)
    go (no n) t = let d : (h / 32 ≡ k) × (bit v (h % 32) ≡ true) → ⊥ = λ x. n x.0 in stayed d ((of-held.kept).freed_stays k v xs h d)
