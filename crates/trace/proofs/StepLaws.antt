-- The ways that the reading of a step goes, and that it goes one of them.
use Prim.Native.Nat.{ℕ, ◌<◌, ◌≤◌}
use mathlib.Core.Path.{◌≡◌, refl, sym, ap, ◌∙◌}
use mathlib.Core.Bool.{Bool, true, false, false≢true, true≢false}
use mathlib.Core.List.{List, [], ◌∷◌}
use mathlib.Core.Logic.{◌↔◌, ◌≢◌, ◌⊎◌, inl, inr, ⊎_elim}
use native.Mathlib.Decide.{ℕ_discrete}
use native.Mathlib.Omega.{arith}
use borrow.Author.Tests.{eq-eqb, ne_eqb}
use Rattle.words.specs.Choice.{pick}
use Rattle.words.proofs.ChoiceLaws.{pick_true, pick-false}
use Rattle.steps.specs.Refusals.{damaged, unknown}
use Rattle.steps.specs.declared.Recorded.{Recorded}
use Rattle.steps.specs.declared.Step.TheVariants.{Read, Write, Line}
use Rattle.std.specs.declared.result.Result.TheVariants.{Err}
use Rattle.numbers.specs.declared.Fault.{Fault}
use Rattle.numbers.specs.Number.{Value, Refused, number_at}
use Rattle.numbers.proofs.ReadLaws.{IsRead, number_is}
use Rattle.trace.specs.declared.Turn.{Turn}
use Rattle.trace.specs.declared.Turn.TheVariants.{Found, Ended}
use Rattle.trace.specs.Steps.{read_kind, write_kind, line_kind, operands_of, plain, two_numbers, by_third, by_second, by_first, by_kind, numbers_of, step_at, made_turn}
use Rattle.trace.specs.Promises.{Asks, Unwritten}

-- ---- kinds

-- a kind that goes with two numbers: a read whose privilege is told, a write whose privilege is not, a line
abbrev pub Two : Bool → ℕ → Type 0
Two told kind = ((kind ≡ read_kind) × (told ≡ true)) ⊎ (((kind ≡ write_kind) × (told ≡ false)) ⊎ (kind ≡ line_kind))

-- a kind goes with at most three numbers
pub data Kind : Bool → ℕ → Type 0 where
  none : {told : Bool} {kind : ℕ} → operands_of told kind ≡ 0 → Kind told kind
  one : {told : Bool} {kind : ℕ} → kind ≡ read_kind → told ≡ false → operands_of told kind ≡ 1 → Kind told kind
  two : {told : Bool} {kind : ℕ} → Two told kind → operands_of told kind ≡ 2 → Kind told kind
  three : {told : Bool} {kind : ℕ} → kind ≡ write_kind → told ≡ true → operands_of told kind ≡ 3 → Kind told kind

pub kind-is : (told : Bool) (kind : ℕ) → Kind told kind
unfolding operands_of
kind-is told kind = go told (ℕ_discrete kind 1) (ℕ_discrete kind 2) (ℕ_discrete kind 3)
  where
    go : (t : Bool) → Dec (kind ≡ 1) → Dec (kind ≡ 2) → Dec (kind ≡ 3) → Kind t kind
    go false (yes a) b d = one a refl (sym (pick_true _ (eq-eqb kind 1 a)))
    go true (yes a) b d = two (inl (a, refl)) (sym (pick_true _ (eq-eqb kind 1 a)))
    go false (no a) (yes b) d = two (inr (inl (b, refl))) (sym (pick_true _ (eq-eqb kind 2 b) ∙ pick-false _ (ne_eqb kind 1 a)))
    go true (no a) (yes b) d = three b refl (sym (pick_true _ (eq-eqb kind 2 b) ∙ pick-false _ (ne_eqb kind 1 a)))
    go t (no a) (no b) (yes d) = two (inr (inr d)) (sym (pick_true _ (eq-eqb kind 3 d) ∙ pick-false _ (ne_eqb kind 2 b) ∙ pick-false _ (ne_eqb kind 1 a)))
    go t (no a) (no b) (no d) = none (sym (pick-false _ (ne_eqb kind 3 d) ∙ pick-false _ (ne_eqb kind 2 b) ∙ pick-false _ (ne_eqb kind 1 a)))

pub operands_le : (told : Bool) (kind : ℕ) → operands_of told kind ≤ 3
operands_le told kind = go (kind-is told kind)
  where
    go : Kind told kind → operands_of told kind ≤ 3
    go (none e) = omega arith
    go (one k t e) = omega arith
    go (two k e) = omega arith
    go (three k t e) = omega arith

pub read_one : operands_of false read_kind ≡ 1
unfolding operands_of pick
read_one = refl

pub read-two : operands_of true read_kind ≡ 2
unfolding operands_of pick
read-two = refl

pub write_two : operands_of false write_kind ≡ 2
unfolding operands_of pick
write_two = refl

pub write_three : operands_of true write_kind ≡ 3
unfolding operands_of pick
write_three = refl

pub line-two : (told : Bool) → operands_of told line_kind ≡ 2
unfolding operands_of pick
line-two told = refl

-- it goes with more than so many, in the words of the promises, and back
pub more_operands : (told : Bool) (kind n : ℕ) → n < operands_of told kind ↔ Asks told kind n
more_operands told kind n = (only told (kind-is told kind), so told)
  where
    only : (t : Bool) → Kind t kind → n < operands_of t kind → Asks t kind n
    only false (none e) l = absurd (omega arith)
    only false (one k t e) l = inl (k, omega arith)
    only false (two (inl (k, t)) e) l = absurd (false≢true t)
    only false (two (inr (inl (k, t))) e) l = inr (inl k, omega arith)
    only false (two (inr (inr k)) e) l = inr (inr k, omega arith)
    only false (three k t e) l = absurd (false≢true t)
    only true (none e) l = absurd (omega arith)
    only true (one k t e) l = absurd (true≢false t)
    only true (two (inl (k, t)) e) l = inr (inl k, omega arith)
    only true (two (inr (inl (k, t))) e) l = absurd (true≢false t)
    only true (two (inr (inr k)) e) l = inr (inr k, omega arith)
    only true (three k t e) l = inl (k, omega arith)

    so : (t : Bool) → Asks t kind n → n < operands_of t kind
    so false (inl h) = rw (h.0, read_one) h.1
    so false (inr (inl h, l)) = rw (h, write_two) l
    so false (inr (inr h, l)) = rw (h, line-two false) l
    so true (inl h) = rw (h.0, write_three) h.1
    so true (inr (inl h, l)) = rw (h, read-two) l
    so true (inr (inr h, l)) = rw (h, line-two true) l

-- it goes with none where it is no kind of step
pub no_operands : (told : Bool) (kind : ℕ) → (operands_of told kind ≡ 0) ↔ ((kind ≢ 1) × ((kind ≢ 2) × (kind ≢ 3)))
no_operands told kind = (only told, λ h. so (kind-is told kind) h.0 h.1.0 h.1.1)
  where
    only : (t : Bool) → operands_of t kind ≡ 0 → (kind ≢ 1) × ((kind ≢ 2) × (kind ≢ 3))
    only false z = (
      λ k. let e : operands_of false kind ≡ 1 = rw (k, read_one) in omega arith,
      (λ k. let e : operands_of false kind ≡ 2 = rw (k, write_two) in omega arith, λ k. let e : operands_of false kind ≡ 2 = rw (k, line-two false) in omega arith),
    )
    only true z = (
      λ k. let e : operands_of true kind ≡ 2 = rw (k, read-two) in omega arith,
      (λ k. let e : operands_of true kind ≡ 3 = rw (k, write_three) in omega arith, λ k. let e : operands_of true kind ≡ 2 = rw (k, line-two true) in omega arith),
    )

    so : Kind told kind → kind ≢ 1 → kind ≢ 2 → kind ≢ 3 → operands_of told kind ≡ 0
    so (none e) a b d = e
    so (one k t e) a b d = absurd (a k)
    so (two (inl k) e) a b d = absurd (a k.0)
    so (two (inr (inl k)) e) a b d = absurd (b k.0)
    so (two (inr (inr k)) e) a b d = absurd (d k)
    so (three k t e) a b d = absurd (b k)

-- ---- the ways

module _ (told : Bool) (s : List ℕ) (at : ℕ) where
  pub kind-fault : (h : Fault) → number_at s at ≡ Err h → step_at told s at ≡ made_turn (Err h)
  unfolding step_at
  kind-fault h e = ap (by_kind told s at) e

  pub kind-damaged : number_at s at ≡ Refused damaged at → step_at told s at ≡ Ended damaged at
  kind-damaged e = kind-fault _ e

  pub kind-unknown : (kind p : ℕ) → number_at s at ≡ Value kind p → operands_of told kind ≡ 0 → step_at told s at ≡ Ended unknown at
  unfolding step_at
  kind-unknown kind p e z = ap (by_kind told s at) e ∙ sym (pick_true (by_first told s kind (number_at s p)) (eq-eqb (operands_of told kind) 0 z))

  -- the kind is known
  known : (kind p : ℕ) → number_at s at ≡ Value kind p → 0 < operands_of told kind → step_at told s at ≡ by_first told s kind (number_at s p)
  unfolding step_at
  known kind p e l = ap (by_kind told s at) e ∙ sym (pick-false (Ended unknown at) (ne_eqb (operands_of told kind) 0 (λ z. omega arith)))

  pub first-fault : (kind p : ℕ) (h : Fault) → number_at s at ≡ Value kind p → 0 < operands_of told kind → number_at s p ≡ Err h
      → step_at told s at ≡ made_turn (Err h)
  first-fault kind p h e l f = known kind p e l ∙ ap (by_first told s kind) f

  pub first-damaged : (kind p : ℕ) → number_at s at ≡ Value kind p → 0 < operands_of told kind → number_at s p ≡ Refused damaged p → step_at told s at ≡ Ended damaged p
  first-damaged kind p e l f = first-fault kind p _ e l f

  pub one_number_lem : (kind p x next : ℕ) → number_at s at ≡ Value kind p → operands_of told kind ≡ 1 → number_at s p ≡ Value x next
      → step_at told s at ≡ Found (plain (Read x)) next
  one_number_lem kind p x next e o f =
      known kind p e (omega arith) ∙ ap (by_first told s kind) f ∙ sym (pick_true (by_second told s kind x (number_at s next)) (eq-eqb (operands_of told kind) 1 o))

  -- there is a second number
  wider : (kind p x q : ℕ) → number_at s at ≡ Value kind p → 1 < operands_of told kind → number_at s p ≡ Value x q
      → step_at told s at ≡ by_second told s kind x (number_at s q)
  wider kind p x q e l f =
      known kind p e (omega arith) ∙ ap (by_first told s kind) f ∙ sym (pick-false (Found (plain (Read x)) q) (ne_eqb (operands_of told kind) 1 (λ z. omega arith)))

  pub second-fault : (kind p x q : ℕ) (h : Fault) → number_at s at ≡ Value kind p → 1 < operands_of told kind → number_at s p ≡ Value x q → number_at s q ≡ Err h
      → step_at told s at ≡ made_turn (Err h)
  second-fault kind p x q h e l f g = wider kind p x q e l f ∙ ap (by_second told s kind x) g

  pub second-damaged : (kind p x q : ℕ) → number_at s at ≡ Value kind p → 1 < operands_of told kind → number_at s p ≡ Value x q → number_at s q ≡ Refused damaged q
      → step_at told s at ≡ Ended damaged q
  second-damaged kind p x q e l f g = second-fault kind p x q _ e l f g

  pub two_numbers_lem : (kind p x q y next : ℕ) → number_at s at ≡ Value kind p → operands_of told kind ≡ 2 → number_at s p ≡ Value x q → number_at s q ≡ Value y next
      → step_at told s at ≡ Found (two_numbers kind x y) next
  two_numbers_lem kind p x q y next e o f g =
      wider kind p x q e (omega arith) f ∙ ap (by_second told s kind x) g ∙ sym (pick_true (by_third x y (number_at s next)) (eq-eqb (operands_of told kind) 2 o))

  -- there is a third
  widest : (kind p x q y r : ℕ) → number_at s at ≡ Value kind p → 2 < operands_of told kind → number_at s p ≡ Value x q → number_at s q ≡ Value y r
      → step_at told s at ≡ by_third x y (number_at s r)
  widest kind p x q y r e l f g =
      wider kind p x q e (omega arith) f ∙ ap (by_second told s kind x) g
      ∙ sym (pick-false (Found (two_numbers kind x y) r) (ne_eqb (operands_of told kind) 2 (λ z. omega arith)))

  pub third-fault : (kind p x q y r : ℕ) (d : Fault) → number_at s at ≡ Value kind p → 2 < operands_of told kind → number_at s p ≡ Value x q → number_at s q ≡ Value y r
      → number_at s r ≡ Err d → step_at told s at ≡ made_turn (Err d)
  third-fault kind p x q y r d e l f g h = widest kind p x q y r e l f g ∙ ap (by_third x y) h

  pub third-damaged : (kind p x q y r : ℕ) → number_at s at ≡ Value kind p → 2 < operands_of told kind → number_at s p ≡ Value x q → number_at s q ≡ Value y r
      → number_at s r ≡ Refused damaged r → step_at told s at ≡ Ended damaged r
  third-damaged kind p x q y r e l f g h = third-fault kind p x q y r _ e l f g h

  pub three_numbers : (kind p x q y r z next : ℕ) → number_at s at ≡ Value kind p → 2 < operands_of told kind → number_at s p ≡ Value x q → number_at s q ≡ Value y r
      → number_at s r ≡ Value z next → step_at told s at ≡ Found (record { step = Write x z; privilege = y }) next
  three_numbers kind p x q y r z next e l f g h = widest kind p x q y r e l f g ∙ ap (by_third x y) h

-- what two numbers make of each kind that goes with two
pub two-read : (kind x y : ℕ) → kind ≡ read_kind → two_numbers kind x y ≡ record { step = Read x; privilege = y }
unfolding two_numbers
two-read kind x y k = sym (pick_true _ (eq-eqb kind 1 k))

pub two-write : (kind x y : ℕ) → kind ≡ write_kind → two_numbers kind x y ≡ plain (Write x y)
unfolding two_numbers
two-write kind x y k = sym (pick_true _ (eq-eqb kind 2 k) ∙ pick-false _ (ne_eqb kind 1 (λ e. omega arith)))

pub two-line : (kind x y : ℕ) → kind ≡ line_kind → two_numbers kind x y ≡ plain (Line x y)
unfolding two_numbers
two-line kind x y k = sym (pick-false _ (ne_eqb kind 2 (λ e. omega arith)) ∙ pick-false _ (ne_eqb kind 1 (λ e. omega arith)))

-- a step is written with these numbers, and its privilege is 1 where it is not written
abbrev pub Written : Bool → Recorded → List ℕ → Type 0
Written told x ns = Unwritten x.step told x.privilege × (numbers_of told x ≡ ns)

-- two numbers make a step that is written with them
pub written-two : (told : Bool) (kind x y : ℕ) → Two told kind → Written told (two_numbers kind x y) (kind ∷ x ∷ y ∷ [])
written-two told kind x y (inl k) = rw (two-read kind x y k.0, k.1, k.0) (tt, refl)
written-two told kind x y (inr (inl k)) = rw (two-write kind x y k.0, k.1, k.0) (refl, refl)
written-two told kind x y (inr (inr k)) = rw (two-line kind x y k, k) (refl, refl)

-- ---- one of them is gone

pub data Outcome (told : Bool) (s : List ℕ) (at : ℕ) : Turn → Type 0 where
  no_kind : number_at s at ≡ Refused damaged at → Outcome told s at (Ended damaged at)
  unknown_kind : (kind p : ℕ) → number_at s at ≡ Value kind p → operands_of told kind ≡ 0 → Outcome told s at (Ended unknown at)
  no_first : (kind p : ℕ) → number_at s at ≡ Value kind p → 0 < operands_of told kind → number_at s p ≡ Refused damaged p → Outcome told s at (Ended damaged p)
  one_number : (step : Recorded) (kind p x next : ℕ) → Written told step (kind ∷ x ∷ []) → number_at s at ≡ Value kind p → number_at s p ≡ Value x next
      → Outcome told s at (Found step next)
  no_second : (kind p x q : ℕ) → number_at s at ≡ Value kind p → 1 < operands_of told kind → number_at s p ≡ Value x q → number_at s q ≡ Refused damaged q
      → Outcome told s at (Ended damaged q)
  two_numbered : (step : Recorded) (kind p x q y next : ℕ) → Written told step (kind ∷ x ∷ y ∷ []) → number_at s at ≡ Value kind p → number_at s p ≡ Value x q
      → number_at s q ≡ Value y next → Outcome told s at (Found step next)
  no_third : (kind p x q y r : ℕ) → number_at s at ≡ Value kind p → 2 < operands_of told kind → number_at s p ≡ Value x q → number_at s q ≡ Value y r
      → number_at s r ≡ Refused damaged r → Outcome told s at (Ended damaged r)
  three_numbered : (step : Recorded) (kind p x q y r z next : ℕ) → Written told step (kind ∷ x ∷ y ∷ z ∷ []) → number_at s at ≡ Value kind p
      → number_at s p ≡ Value x q → number_at s q ≡ Value y r → number_at s r ≡ Value z next → Outcome told s at (Found step next)

-- the same outcome of what it is equal to
pub over : {told : Bool} {s : List ℕ} {at : ℕ} (a b : Turn) → a ≡ b → Outcome told s at b → Outcome told s at a
over a b e o = rw e o

pub outcome : (told : Bool) (s : List ℕ) (at : ℕ) → Outcome told s at (step_at told s at)
outcome told s at =
    ⊎_elim (λ e. over _ _ (kind-damaged told s at e) (no_kind e)) (λ r. kinded r.value r.next r.is (kind-is told r.value)) (number_is s at)
  where
    Here : Type 0
    Here = Outcome told s at (step_at told s at)

    -- the first number, and what follows it
    first : (kind p : ℕ) → number_at s at ≡ Value kind p → 0 < operands_of told kind → ((x q : ℕ) → number_at s p ≡ Value x q → Here) → Here
    first kind p e l next =
        ⊎_elim (λ f. over _ _ (first-damaged told s at kind p e l f) (no_first kind p e l f)) (λ (r : IsRead s p). next r.value r.next r.is) (number_is s p)

    second : (kind p x q : ℕ) → number_at s at ≡ Value kind p → 1 < operands_of told kind → number_at s p ≡ Value x q
        → ((y r : ℕ) → number_at s q ≡ Value y r → Here) → Here
    second kind p x q e l f next =
        ⊎_elim (λ g. over _ _ (second-damaged told s at kind p x q e l f g) (no_second kind p x q e l f g)) (λ (r : IsRead s q). next r.value r.next r.is)
        (number_is s q)

    third : (kind p x q y r : ℕ) → kind ≡ write_kind → told ≡ true → number_at s at ≡ Value kind p → 2 < operands_of told kind → number_at s p ≡ Value x q
        → number_at s q ≡ Value y r → Here
    third kind p x q y r k t e l f g =
        ⊎_elim (λ h. over _ _ (third-damaged told s at kind p x q y r e l f g h) (no_third kind p x q y r e l f g h))
        (λ (z : IsRead s r).
        over _ _ (three_numbers told s at kind p x q y r z.value z.next e l f g z.is)
        (three_numbered (record { step = Write x z.value; privilege = y }) kind p x q y r z.value z.next (rw (t, k) (tt, refl)) e f g z.is))
        (number_is s r)

    kinded : (kind p : ℕ) → number_at s at ≡ Value kind p → Kind told kind → Here
    kinded kind p e (none z) = over _ _ (kind-unknown told s at kind p e z) (unknown_kind kind p e z)
    kinded kind p e (one k t o) =
        first kind p e (omega arith)
        (λ x next f. over _ _ (one_number_lem told s at kind p x next e o f) (one_number (plain (Read x)) kind p x next (rw (t, k) (refl, refl)) e f))
    kinded kind p e (two k o) =
        first kind p e (omega arith)
        (λ x q f.
        second kind p x q e (omega arith) f
        (λ y next g.
        over _ _ (two_numbers_lem told s at kind p x q y next e o f g) (two_numbered (two_numbers kind x y) kind p x q y next (written-two told kind x y k) e f g)))
    kinded kind p e (three k t o) =
        first kind p e (omega arith) (λ x q f. second kind p x q e (omega arith) f (λ y r g. third kind p x q y r k t e (omega arith) f g))
