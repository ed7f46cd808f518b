-- Where some row has an offset, and what it comes to that a map names registers exactly where a model has them.
use Prim.Native.Nat.{ℕ, ◌+◌, ◌-◌, ◌*◌, ◌/◌, ◌%◌, ◌<◌, ◌≤◌}
use mathlib.Core.Path.{◌≡◌, refl, sym, ap, ◌∙◌}
use mathlib.Core.Bool.{Bool, true, false, not, ◌&&◌, ◌||◌}
use mathlib.Core.List.{List, [], ◌∷◌}
use mathlib.Core.Logic.{◌≢◌, ◌⊎◌, inl, inr}
use native.Mathlib.Omega.{arith}
use native.Mathlib.Decide.{ℕ_discrete}
use lib.Dec.{eqb, ltb, leb}
use lib.ListN.{length}
use borrow.Author.Tests.{eq-eqb, ne_eqb, le-ltb}
use Rattle.words.specs.Choice.{pick}
use Rattle.words.proofs.ChoiceLaws.{pick_true, pick-false}
use Rattle.words.proofs.TruthLaws.{told, clash}
use Rattle.steps.specs.declared.Access.{Access}
use Rattle.steps.specs.declared.Access.TheVariants.{NoRegister, ReadOnly, WriteOnly, ReadWrite}
use Rattle.register_names.specs.Rows.{Row, alone, group, in_group, in_row, named, numbered, row_words, place_in}
use Rattle.register_names.specs.Promises.{Exactly}

-- ---- a name where some row has the offset

unfoldable pub any_row : List Row → ℕ → Bool
any_row [] o = false
any_row (r ∷ rs) o = in_row r o || any_row rs o

-- a name begins with a space, so it is something
longer : (b : ℕ) (l : List ℕ) → (b ∷ l) ≢ []
longer b l e = let n : length (b ∷ l) ≡ 0 = ap length e in omega (arith, n)

some-name : (r : Row) (o : ℕ) → row_words r o ≢ []
unfolding row_words named numbered
some-name (alone first name section) o e = longer _ _ e
some-name (group first count step name section) o e = longer _ _ e

pub none_named : (rs : List Row) (o : ℕ) → any_row rs o ≡ false → place_in rs o ≡ []
unfolding place_in any_row
none_named [] o e = refl
none_named (r ∷ rs) o e = go (told (in_row r o)) (none_named rs o)
  where
    go : (in_row r o ≡ true) ⊎ (in_row r o ≡ false) → (any_row rs o ≡ false → place_in rs o ≡ []) → pick (in_row r o) (row_words r o) (place_in rs o) ≡ []
    go (inl t) i = clash (ap (λ (b : Bool). b || any_row rs o) t) e
    go (inr f) i = sym (pick-false _ f) ∙ i (sym (ap (λ (b : Bool). b || any_row rs o) f) ∙ e)

pub some-named : (rs : List Row) (o : ℕ) → any_row rs o ≡ true → place_in rs o ≢ []
unfolding place_in any_row
some-named [] o e z = clash e refl
some-named (r ∷ rs) o e z = go (told (in_row r o)) (some-named rs o) z
  where
    go : (in_row r o ≡ true) ⊎ (in_row r o ≡ false) → (any_row rs o ≡ true → place_in rs o ≢ []) → pick (in_row r o) (row_words r o) (place_in rs o) ≢ []
    go (inl t) i z = some-name r o (pick_true _ t ∙ z)
    go (inr f) i z = i (sym (ap (λ (b : Bool). b || any_row rs o) f) ∙ e) (pick-false _ f ∙ z)

-- ---- exactly

unfoldable pub known : Access → Bool
known NoRegister = false
known ReadOnly = true
known WriteOnly = true
known ReadWrite = true

pub known-none : (a : Access) → known a ≡ false → a ≡ NoRegister
unfolding known
known-none NoRegister e = refl
known-none ReadOnly e = clash refl e
known-none WriteOnly e = clash refl e
known-none ReadWrite e = clash refl e

pub none-known : (a : Access) → a ≡ NoRegister → known a ≡ false
unfolding known
none-known a e = ap known e

pub and-off : (a : Bool) → (a && false) ≡ false
and-off true = refl
and-off false = refl

-- by a test that holds exactly where there is a register
pub exact : (rs : List Row) (o : ℕ) (t : Bool) (absent : Type 0) → (t ≡ false → absent) → (absent → t ≡ false) → any_row rs o ≡ (eqb (o % 4) 0 && t) → Exactly rs o absent
exact rs o t absent f g e = (there, back)
  where
    right : (t ≡ true) ⊎ (t ≡ false) → place_in rs o ≡ [] → o % 4 ≡ 0 → absent
    right (inl y) z a = absurd (some-named rs o (e ∙ ap (λ (b : Bool). b && t) (eq-eqb (o % 4) 0 a) ∙ y) z)
    right (inr n) z a = f n

    split : Dec (o % 4 ≡ 0) → place_in rs o ≡ [] → (o % 4 ≢ 0) ⊎ absent
    split (yes a) z = inr (right (told t) z a)
    split (no a) z = inl a

    there : place_in rs o ≡ [] → (o % 4 ≢ 0) ⊎ absent
    there z = split (ℕ_discrete (o % 4) 0) z

    back : (o % 4 ≢ 0) ⊎ absent → place_in rs o ≡ []
    back (inl a) = none_named rs o (e ∙ ap (λ (b : Bool). b && t) (ne_eqb (o % 4) 0 a))
    back (inr a) = none_named rs o (e ∙ ap (λ (b : Bool). eqb (o % 4) 0 && b) (g a) ∙ and-off (eqb (o % 4) 0))

unfoldable pub same : Bool → Bool → Bool
same true b = b
same false b = not b

pub same-is : (a b : Bool) → same a b ≡ true → a ≡ b
unfolding same
same-is true true e = refl
same-is true false e = clash refl (sym e)
same-is false true e = clash refl (sym e)
same-is false false e = refl

-- past the last register
pub or-none : (r : Row) (rs : List Row) (o : ℕ) → in_row r o ≡ false → any_row rs o ≡ false → any_row (r ∷ rs) o ≡ false
unfolding any_row
or-none r rs o e f = ap (λ (b : Bool). b || any_row rs o) e ∙ f

pub no_row : (o : ℕ) → any_row [] o ≡ false
unfolding any_row
no_row o = refl

pub not_alone : (first o : ℕ) (name section : List ℕ) → first < o → in_row (alone first name section) o ≡ false
unfolding in_row
not_alone first o name section h = ne_eqb o first (λ e. omega (arith, e, h))

pub not_words : (first count o : ℕ) (name section : List ℕ) → first + 4 * count ≤ o → in_row (group first count 4 name section) o ≡ false
unfolding in_row in_group
not_words first count o name section h =
    let e : ltb ((o - first) / 4) count ≡ false = le-ltb ((o - first) / 4) count (omega (arith, h)) in
    ap (λ (b : Bool). leb first o && (eqb ((o - first) % 4) 0 && b)) e ∙ ap (λ (b : Bool). leb first o && b) (and-off (eqb ((o - first) % 4) 0)) ∙ and-off (leb first o)

pub not_banks : (first o : ℕ) (name section : List ℕ) → first + 0x80 ≤ o → in_row (group first 4 0x20 name section) o ≡ false
unfolding in_row in_group
not_banks first o name section h =
    let e : ltb ((o - first) / 0x20) 4 ≡ false = le-ltb ((o - first) / 0x20) 4 (omega (arith, h)) in
    ap (λ (b : Bool). leb first o && (eqb ((o - first) % 0x20) 0 && b)) e ∙ ap (λ (b : Bool). leb first o && b) (and-off (eqb ((o - first) % 0x20) 0)) ∙ and-off (leb first o)

-- there is none, and the model has none
pub past : (rs : List Row) (o : ℕ) (a : Access) → any_row rs o ≡ false → (o % 4 ≡ 0 → a ≡ NoRegister) → any_row rs o ≡ (eqb (o % 4) 0 && known a)
past rs o a e h = e ∙ go (ℕ_discrete (o % 4) 0)
  where
    go : Dec (o % 4 ≡ 0) → false ≡ (eqb (o % 4) 0 && known a)
    go (yes z) = sym (ap (λ (b : Bool). eqb (o % 4) 0 && b) (none-known a (h z)) ∙ and-off (eqb (o % 4) 0))
    go (no z) = sym (ap (λ (b : Bool). b && known a) (ne_eqb (o % 4) 0 z))
