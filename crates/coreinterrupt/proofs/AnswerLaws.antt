-- The answer of a step, where its refusal number is known, and what holds of it in any case.
use Prim.Native.Nat.{ℕ}
use mathlib.Core.Path.{◌≡◌, refl, sym, ap, ◌∙◌}
use mathlib.Core.Logic.{◌≢◌}
use borrow.Author.Tests.{eq-eqb, ne_eqb, eqb-true}
use lib.Dec.{eqb}
use Rattle.words.proofs.ChoiceLaws.{pick_true, pick-false, pick_cases}
use Rattle.coreinterrupt.specs.declared.Core.{Core}
use Rattle.coreinterrupt.specs.declared.Answer.{Answer}
use Rattle.coreinterrupt.specs.Model.{refused, unless_refused}

-- nothing is refused
pub carried : (c : Core) (n : ℕ) {a : Answer} → n ≡ 0 → a ≡ unless_refused c n a
unfolding unless_refused
carried c n e = pick_true _ (eq-eqb n 0 e)

-- something is
pub stopped : (c : Core) (n : ℕ) (a : Answer) → n ≢ 0 → refused c n ≡ unless_refused c n a
unfolding unless_refused
stopped c n a d = pick-false _ (ne_eqb n 0 d)

-- what holds of the answer and of the refusal holds in any case
pub either_way : (P : Answer → Type 0) (c : Core) (n : ℕ) (a : Answer) → P a → P (refused c n) → P (unless_refused c n a)
unfolding unless_refused
either_way P c n a p q = pick_cases P (eqb n 0) (λ _. p) (λ _. q)

-- the number answered is the number of the refusal
pub number_is : (c : Core) (n : ℕ) (a : Answer) → a.refusal ≡ 0 → (unless_refused c n a).refusal ≡ n
unfolding unless_refused
number_is c n a e = pick_cases (λ (b : Answer). b.refusal ≡ n) (eqb n 0) (λ h. e ∙ sym (eqb-true n 0 h)) (λ _. refl)

-- a refused step is the refusal by its number
pub refused-is : (c : Core) (n : ℕ) (a : Answer) → a.refusal ≡ 0 → (unless_refused c n a).refusal ≢ 0
    → unless_refused c n a ≡ refused c (unless_refused c n a).refusal
refused-is c n a e d =
    let i = number_is c n a e in
    sym (stopped c n a (λ z. d (i ∙ z))) ∙ ap (refused c) (sym i)

-- one that is not refused is its answer
pub taken : (c : Core) (n : ℕ) (a : Answer) → a.refusal ≡ 0 → (unless_refused c n a).refusal ≡ 0 → unless_refused c n a ≡ a
taken c n a e z = sym (carried c n (sym (number_is c n a e) ∙ z))
