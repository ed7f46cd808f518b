-- What the numbers of a turn tell, in each of its ways: a loop over a trace needs these.
use Prim.Native.Nat.{ℕ, ◌<◌, ◌≤◌}
use mathlib.Core.Path.{◌≡◌, refl, sym, ap, ◌∙◌}
use mathlib.Core.Bool.{Bool}
use mathlib.Core.List.{List}
use native.Mathlib.Omega.{arith}
use native.Mathlib.Decide.{ℕ_discrete}
use borrow.Author.Tests.{eq-eqb, ne_eqb}
use lib.ListN.{length}
use Rattle.words.proofs.ChoiceLaws.{pick_true, pick-false}
use Rattle.steps.specs.Refusals.{carried_out, limit_reached}
use Rattle.steps.specs.declared.Step.{Step}
use Rattle.steps.specs.declared.Step.TheVariants.{Read, Write, Line}
use Rattle.trace.specs.declared.Turn.{Turn}
use Rattle.trace.specs.declared.Turn.TheVariants.{Found, Ended}
use Rattle.trace.specs.Steps.{read_kind, write_kind, step_at}
use Rattle.trace.specs.Trace.{turn_at}
use Rattle.trace.proofs.TraceLaws.{turn_cases, turn_found}
use Rattle.trace.specs.declared.turns.Told.{Told}
use Rattle.trace.specs.Turns.{ended_kind, made, step_of, recorded_of, turn_of, told_of, Spare}

-- ---- the step of a kind

pub step-read : (kind x y : ℕ) → kind ≡ read_kind → step_of kind x y ≡ Read x
unfolding step_of
step-read kind x y k = sym (pick_true _ (eq-eqb kind 1 k))

pub step-write : (kind x y : ℕ) → kind ≡ write_kind → step_of kind x y ≡ Write x y
unfolding step_of
step-write kind x y k = sym (pick_true _ (eq-eqb kind 2 k) ∙ pick-false _ (ne_eqb kind 1 (λ e. omega arith)))

-- any other kind
pub step_line : (kind x y : ℕ) → (kind ≡ read_kind → ⊥) → (kind ≡ write_kind → ⊥) → step_of kind x y ≡ Line x y
unfolding step_of
step_line kind x y r w = sym (pick-false _ (ne_eqb kind 2 w) ∙ pick-false _ (ne_eqb kind 1 r))

-- the same step, found by the same privilege with the same place after it
pub same_step : {x y : Step} (v next : ℕ) → x ≡ y → Found (made x v) next ≡ Found (made y v) next
same_step v next e = ap (λ (x : Step). Found (made x v) next) e

-- ---- the turn that numbers tell

pub of-ended : (t : Told) → t.kind ≡ ended_kind → turn_of t ≡ Ended t.refusal t.next
unfolding turn_of
of-ended t e = sym (pick_true _ (eq-eqb t.kind 0 e))

pub of_found : (t : Told) → (t.kind ≡ ended_kind → ⊥) → turn_of t ≡ Found (recorded_of t) t.next
unfolding turn_of
of_found t n = sym (pick-false _ (ne_eqb t.kind 0 n))

-- ---- the ways of a turn

module _ (told : Bool) (s : List ℕ) (at left : ℕ) where
  pub turn-over : length s ≤ at → Ended carried_out (length s) ≡ turn_at told s at left
  turn-over h = turn_cases (λ (t : Turn). Ended carried_out (length s) ≡ t) told s at left (λ i. refl) (λ i z. absurd (omega arith)) (λ i z. absurd (omega arith))

  pub turn_limited : at < length s → left ≡ 0 → Ended limit_reached at ≡ turn_at told s at left
  turn_limited h e = turn_cases (λ (t : Turn). Ended limit_reached at ≡ t) told s at left (λ i. absurd (omega arith)) (λ i z. refl) (λ i z. absurd (z e))

  pub turn_step : at < length s → (left ≡ 0 → ⊥) → step_at told s at ≡ turn_at told s at left
  turn_step h n = turn_cases (λ (t : Turn). step_at told s at ≡ t) told s at left (λ i. absurd (omega arith)) (λ i z. absurd (n z)) (λ i z. refl)

-- ---- a turn is told in one way

told_is : (t : Told) {k x y p n f : ℕ} → t.kind ≡ k → t.x ≡ x → t.y ≡ y → t.privilege ≡ p → t.next ≡ n → t.refusal ≡ f
    → t ≡ record { kind = k; x = x; y = y; privilege = p; next = n; refusal = f }
told_is t a b c d e g = λ i. record { kind = a i; x = b i; y = c i; privilege = d i; next = e i; refusal = g i }

pub exact : (t : Told) → t.kind < 4 → Spare t → t ≡ told_of (turn_of t)
unfolding told_of
exact t l s = go (ℕ_discrete t.kind 0) (ℕ_discrete t.kind 1) (ℕ_discrete t.kind 2)
  where
    step : (x : Step) → (t.kind ≡ ended_kind → ⊥) → step_of t.kind t.x t.y ≡ x → told_of (Found (made x t.privilege) t.next) ≡ told_of (turn_of t)
    step x n e = ap told_of (sym (of_found t n ∙ same_step t.privilege t.next e))

    go : Dec (t.kind ≡ 0) → Dec (t.kind ≡ 1) → Dec (t.kind ≡ 2) → t ≡ told_of (turn_of t)
    go (yes k) r w =
        let z = s.ended k in
        told_is t k z.0 z.1 z.2 refl refl ∙ sym (ap told_of (of-ended t k))
    go (no n) (yes k) w = told_is t k refl (s.read k) refl refl (s.found n) ∙ step (Read t.x) n (step-read _ _ _ k)
    go (no n) (no r) (yes k) = told_is t k refl refl refl refl (s.found n) ∙ step (Write t.x t.y) n (step-write _ _ _ k)
    go (no n) (no r) (no w) =
        let k : t.kind ≡ 3 = omega arith in
        told_is t k refl refl refl refl (s.found n) ∙ step (Line t.x t.y) n (step_line _ _ _ r w)

pub exact_as : (t : Told) (u : Turn) → t.kind < 4 → Spare t → turn_of t ≡ u → t ≡ told_of u
exact_as t u l s e = exact t l s ∙ ap told_of e

-- ---- a turn of a loop, of which t has been told

module _ (t : Told) (told : Bool) (s : List ℕ) (at left : ℕ) (e : turn_of t ≡ turn_at told s at left) where
  pub ends_here : t.kind ≡ ended_kind → turn_at told s at left ≡ Ended t.refusal t.next
  ends_here k = sym e ∙ of-ended t k

  pub finds : (t.kind ≡ ended_kind → ⊥) → turn_at told s at left ≡ Found (recorded_of t) t.next
  finds n = sym e ∙ of_found t n

  -- by its kind
  pub finds-read : t.kind ≡ read_kind → turn_at told s at left ≡ Found (made (Read t.x) t.privilege) t.next
  finds-read k = finds (λ z. omega arith) ∙ same_step t.privilege t.next (step-read _ _ _ k)

  pub finds-write : t.kind ≡ write_kind → turn_at told s at left ≡ Found (made (Write t.x t.y) t.privilege) t.next
  finds-write k = finds (λ z. omega arith) ∙ same_step t.privilege t.next (step-write _ _ _ k)

  pub finds-line : (t.kind ≡ ended_kind → ⊥) → (t.kind ≡ read_kind → ⊥) → (t.kind ≡ write_kind → ⊥)
      → turn_at told s at left ≡ Found (made (Line t.x t.y) t.privilege) t.next
  finds-line n r w = finds n ∙ same_step t.privilege t.next (step_line _ _ _ r w)

  -- a step is found inside the trace, while something is left of the limit
  pub found_here : (t.kind ≡ ended_kind → ⊥) → (at < length s) × ((0 < left) × (step_at told s at ≡ Found (recorded_of t) t.next))
  found_here n = turn_found told s at left _ _ (finds n)
