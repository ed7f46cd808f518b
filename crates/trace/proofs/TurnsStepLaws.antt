-- The steps that short numbers make, by their kind, with a privilege between their numbers where it is told.
use Prim.Native.Nat.{ℕ, ◌<◌}
use mathlib.Core.Path.{◌≡◌, refl, sym, ap, ◌∙◌}
use mathlib.Core.Bool.{Bool, true, false, not, ◌&&◌}
use mathlib.Core.List.{List}
use native.Mathlib.Decide.{ℕ_discrete}
use native.Mathlib.Omega.{arith}
use lib.Dec.{eqb}
use borrow.Author.Tests.{eq-eqb, ne_eqb}
use Rattle.words.proofs.ChoiceLaws.{pick_true, pick-false}
use Rattle.steps.specs.Refusals.{privileged}
use Rattle.steps.specs.declared.Recorded.{Recorded}
use Rattle.steps.specs.declared.Step.{Step}
use Rattle.numbers.specs.Number.{Number, Value, number_at, told as told_of}
use Rattle.trace.specs.declared.Turn.TheVariants.{Found}
use Rattle.trace.specs.Steps.{read_kind, write_kind, line_kind, step_at}
use Rattle.trace.proofs.StepLaws.{read_one, read-two, write_two, write_three, line-two, one_number_lem, two_numbers_lem, three_numbers, two-read, two-write, two-line}
use Rattle.trace.specs.Turns.{made, step_of, privilege_at}
use Rattle.trace.proofs.TurnLaws.{step-read, step-write, step_line}

-- ---- the privilege

-- it is told: a number of its own
pub has_privilege : (told : Bool) (kind : ℕ) (s : List ℕ) (at : ℕ) → (told && not (eqb kind line_kind)) ≡ true → number_at s at ≡ privilege_at told kind s at
unfolding privilege_at
has_privilege told kind s at e = pick_true _ e

-- it is not: 1, and no byte
pub no_privilege : (told : Bool) (kind : ℕ) (s : List ℕ) (at : ℕ) → (told && not (eqb kind line_kind)) ≡ false → Value privileged at ≡ privilege_at told kind s at
unfolding privilege_at
no_privilege told kind s at e = pick-false _ e

-- the same value has the same parts
same_parts : {v w a b : ℕ} → Value v a ≡ Value w b → (v ≡ w) × (a ≡ b)
same_parts e = (ap (λ (n : Number). (told_of n).value) e, ap (λ (n : Number). (told_of n).place) e)

-- ---- steps

-- a step in other words
alike : {x y : Recorded} (next : ℕ) → x ≡ y → Found x next ≡ Found y next
alike next e = ap (λ (z : Recorded). Found z next) e

module _ (s : List ℕ) (at kind p x a v b : ℕ) where
  pub read_found : (told : Bool) → kind ≡ read_kind → number_at s at ≡ Value kind p → number_at s p ≡ Value x a → privilege_at told kind s a ≡ Value v b
      → step_at told s at ≡ Found (made (step_of kind x 0) v) b
  read_found false k e f g =
      let q = same_parts (no_privilege false kind s a refl ∙ g) in
      rw (sym q.0, sym q.1) (one_number_lem false s at kind p x a e (rw k read_one) f ∙ alike a (ap (λ (z : Step). made z privileged) (sym (step-read kind x 0 k))))
  read_found true k e f g =
      let h = has_privilege true kind s a (ap not (ne_eqb kind 3 (λ z. omega arith))) ∙ g in
      two_numbers_lem true s at kind p x a v b e (rw k read-two) f h ∙ alike b (two-read kind x v k ∙ ap (λ (z : Step). made z v) (sym (step-read kind x 0 k)))

  module _ (y c : ℕ) where
    write_found : (told : Bool) → kind ≡ write_kind → number_at s at ≡ Value kind p → number_at s p ≡ Value x a → privilege_at told kind s a ≡ Value v b
        → number_at s b ≡ Value y c → step_at told s at ≡ Found (made (step_of kind x y) v) c
    write_found false k e f g h =
        let q = same_parts (no_privilege false kind s a refl ∙ g) in
        rw (sym q.0)
        (two_numbers_lem false s at kind p x a y c e (rw k write_two) f (ap (number_at s) q.1 ∙ h)
        ∙ alike c (two-write kind x y k ∙ ap (λ (z : Step). made z privileged) (sym (step-write kind x y k))))
    write_found true k e f g h =
        let i = has_privilege true kind s a (ap not (ne_eqb kind 3 (λ z. omega arith))) ∙ g in
        three_numbers true s at kind p x a v b y c e (rw (k, write_three) (omega arith)) f i h ∙ alike c (ap (λ (z : Step). made z v) (sym (step-write kind x y k)))

    line_found : (told : Bool) → kind ≡ line_kind → number_at s at ≡ Value kind p → number_at s p ≡ Value x a → privilege_at told kind s a ≡ Value v b
        → number_at s b ≡ Value y c → step_at told s at ≡ Found (made (step_of kind x y) v) c
    line_found told k e f g h =
        let q = same_parts (no_privilege told kind s a (none told) ∙ g) in
        rw (sym q.0)
        (two_numbers_lem told s at kind p x a y c e (rw k (line-two told)) f (ap (number_at s) q.1 ∙ h)
        ∙ alike c (two-line kind x y k ∙ ap (λ (z : Step). made z privileged) (sym (step_line kind x y (λ z. omega arith) (λ z. omega arith)))))
      where
        none : (t : Bool) → (t && not (eqb kind line_kind)) ≡ false
        none false = refl
        none true = ap not (eq-eqb kind 3 k)

    -- a write or a line
    pub other_found : (told : Bool) → (kind ≡ read_kind → ⊥) → 0 < kind → kind < 4 → number_at s at ≡ Value kind p → number_at s p ≡ Value x a
        → privilege_at told kind s a ≡ Value v b → number_at s b ≡ Value y c → step_at told s at ≡ Found (made (step_of kind x y) v) c
    other_found told r l h = go (ℕ_discrete kind 2)
      where
        go : Dec (kind ≡ 2) → number_at s at ≡ Value kind p → number_at s p ≡ Value x a → privilege_at told kind s a ≡ Value v b → number_at s b ≡ Value y c
            → step_at told s at ≡ Found (made (step_of kind x y) v) c
        go (yes k) = write_found told k
        go (no k) = line_found told (omega (arith, r, k, l, h))
