-- Refused or carried out: what is told of a read by its number, and of one of a record that is not sound.
use mathlib.Core.Bool.{Bool, true, false}
use mathlib.Core.Path.{◌≡◌, refl, sym, ap, ◌∙◌}
use Prim.Native.Nat.{ℕ}
use borrow.Author.Tests.{ne_eqb}
use Rattle.words.specs.Choice.{pick}
use Rattle.words.proofs.ChoiceLaws.{pick-false, pick_cases}
use Rattle.steps.specs.declared.Step.TheVariants.{Read}
use Rattle.steps.specs.Refusals.{carried_out, unsound}
use Rattle.cic_held.specs.declared.Answer.{Answer}
use Rattle.cic_held.specs.declared.Prioritised.{Prioritised}
use Rattle.cic_held.specs.Held.{sound}
use Rattle.cic_indexed.specs.declared.Own.{Own}
use Rattle.cic_indexed.specs.Registers.{own_at}
use Rattle.cic_indexed.specs.Model.{answered, unless_refused, read_as, step_as, read}
use Rattle.cic_indexed.proofs.StepLaws.{refused-by, carried-by, not_sound}
use Rattle.cic_prioritised.specs.Looking.{looked, words_at, looked_from, look_as}

-- nothing is nothing, whatever the test
pub none-either : (t : Bool) → ◌≡◌ {A = ℕ} 0 (pick t 0 0)
none-either t = pick_cases (λ (n : ℕ). 0 ≡ n) t (λ _. refl) (λ _. refl)

-- the code's number n is the definition's number m, and not 0
pub refused-look : (p : Prioritised) {n m : ℕ} (a : Answer) (words : ℕ) → n ≡ m → (n ≡ carried_out → ⊥) → looked n 0 0 ≡ looked_from (unless_refused p m a) words
refused-look p {n} a words e z =
    ap (λ (x : ℕ). looked n 0 x) (pick-false {b = 0} words (ne_eqb n carried_out z)) ∙ ap (λ (b : Answer). looked_from b words) (refused-by p a e z)

-- it is 0
pub carried-look : (p q : Prioritised) {n m : ℕ} (v words : ℕ) → n ≡ m → n ≡ carried_out → looked carried_out v words ≡ looked_from (unless_refused p m (answered q v)) words
unfolding pick
carried-look p q v words e z = ap (λ (b : Answer). looked_from b words) (carried-by p {b = answered q v} e z refl)

-- a record that is not sound is refused by 12
pub unsound-look : (p : Prioritised) (o words : ℕ) → looked unsound 0 0 ≡ looked_from (step_as false p (Read o)) words
unfolding pick
unsound-look p o words = ap (λ (b : Answer). looked_from b words) (not_sound p (Read o))

-- a register that looks at no word
pub other-look : (p : Prioritised) (o : ℕ) {w : Own} → sound p ≡ true → w ≡ own_at p o → words_at p w ≡ 0 → looked_from (read p o) 0 ≡ look_as true p o (own_at p o)
unfolding step_as
other-look p o e a z =
    ap (λ (t : Bool). looked_from (step_as t p (Read o)) 0) e ∙ ap (λ (n : ℕ). looked_from (read_as true p o (own_at p o)) n) (sym z ∙ ap (words_at p) a)
