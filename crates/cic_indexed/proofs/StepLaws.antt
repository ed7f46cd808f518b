-- Refused or carried out: what a step answers by its number, and of a record that is not sound.
use mathlib.Core.Bool.{true, false}
use mathlib.Core.Logic.{◌≢◌}
use mathlib.Core.Path.{◌≡◌, refl, sym, ap, ◌∙◌}
use Prim.Native.Nat.{ℕ, ◌%◌, ◌<◌, ◌≤◌}
use native.Mathlib.Decide.{dec_lt, ℕ_discrete}
use native.Mathlib.Omega.{arith}
use borrow.Author.Tests.{eq-eqb, ne_eqb, le-ltb}
use lib.Dec.{eqb}
use Rattle.words.specs.Choice.{pick}
use Rattle.words.proofs.ChoiceLaws.{pick_true, pick-false, pick_cases}
use Rattle.steps.specs.declared.Access.TheVariants.{NoRegister, ReadWrite}
use Rattle.steps.specs.declared.Step.{Step}
use Rattle.steps.specs.declared.Step.TheVariants.{Read, Write, Line}
use Rattle.steps.specs.Refusals.{carried_out, unsound, read_refusal, write_refusal, line_refusal}
use Rattle.cic_registers.specs.Model as cic
use Rattle.cic_held.specs.declared.Answer.{Answer}
use Rattle.cic_held.specs.declared.Prioritised.{Prioritised}
use Rattle.cic_indexed.specs.declared.Own.{Own}
use Rattle.cic_indexed.specs.declared.Own.TheVariants.{Elsewhere, Control, GlobalIndex, HostIndex}
use Rattle.cic_indexed.specs.Registers.{own_at, host_access}
use Rattle.cic_indexed.specs.Model.{refused, unless_refused, read_as, write_as, step_as}

-- ---- by the number

-- the code's number n is the definition's number m, and not 0
pub refused-by : (p : Prioritised) {n m : ℕ} (a : Answer) → n ≡ m → (n ≡ carried_out → ⊥) → refused p n ≡ unless_refused p m a
refused-by p {n} {m} a e z = ap (refused p) e ∙ pick-false a (ne_eqb m carried_out (λ f. z (e ∙ f)))

-- it is 0
pub carried-by : (p : Prioritised) {n m : ℕ} {b a : Answer} → n ≡ m → n ≡ carried_out → b ≡ a → b ≡ unless_refused p m a
carried-by p {n} {m} e z f = f ∙ pick_true (refused p m) (eq-eqb m carried_out (sym e ∙ z))

-- the number that is answered, where a step that is carried out answers 0
pub its_number : (p : Prioritised) (n : ℕ) (a : Answer) → a.refusal ≡ carried_out → (unless_refused p n a).refusal ≡ n
its_number p n a z = go (ℕ_discrete n carried_out)
  where
    go : Dec (n ≡ carried_out) → (unless_refused p n a).refusal ≡ n
    go (yes e) = ap (λ (b : Answer). b.refusal) (sym (pick_true (refused p n) (eq-eqb n carried_out e))) ∙ z ∙ sym e
    go (no d) = ap (λ (b : Answer). b.refusal) (sym (pick-false a (ne_eqb n carried_out d)))

-- a refused step is its number, 0 and the same record
pub its-record : (p : Prioritised) (n : ℕ) (a : Answer) → a.refusal ≡ carried_out → ((unless_refused p n a).refusal ≡ carried_out → ⊥)
    → unless_refused p n a ≡ refused p (unless_refused p n a).refusal
its-record p n a z d = sym (refused-by p a refl (λ e. d (its_number p n a z ∙ e))) ∙ ap (refused p) (sym (its_number p n a z))

-- ---- a record that is not sound: 12 and the same record

not-read : (p : Prioritised) (o : ℕ) (at : Own) → refused p unsound ≡ read_as false p o at
unfolding read_as read_refusal pick
not-read p o Elsewhere = unfold cic.read_as in refl
not-read p o Control = refl
not-read p o GlobalIndex = refl
not-read p o (HostIndex h) = refl

not_written : (p : Prioritised) (o v : ℕ) (at : Own) → refused p unsound ≡ write_as false p o v at
unfolding write_as write_refusal pick
not_written p o v Elsewhere = unfold cic.write_as in refl
not_written p o v Control = refl
not_written p o v GlobalIndex = refl
not_written p o v (HostIndex h) = refl

pub not_sound : (p : Prioritised) (x : Step) → refused p unsound ≡ step_as false p x
unfolding step_as
not_sound p (Read o) = not-read p o (own_at p o)
not_sound p (Write o v) = not_written p o v (own_at p o)
not_sound p (Line s l) = unfold cic.line_as line_refusal pick in refl

-- ---- where there is no register

pub no_read : (o : ℕ) → read_refusal true o NoRegister ≢ carried_out
unfolding read_refusal pick
no_read o = pick_cases (λ (n : ℕ). n ≢ 0) (eqb (o % 4) 0) (λ _ e. omega (arith, e)) (λ _ e. omega (arith, e))

pub no_write : (o n : ℕ) → write_refusal true o NoRegister n ≢ carried_out
unfolding write_refusal pick
no_write o n = pick_cases (λ (m : ℕ). m ≢ 0) (eqb (o % 4) 0) (λ _ e. omega (arith, e)) (λ _ e. omega (arith, e))

-- there is none for a host that is not configured
pub not_there : (p : Prioritised) (h : ℕ) → p.cic.hosts ≤ h → NoRegister ≡ host_access p h
unfolding host_access
not_there p h l = pick-false ReadWrite (le-ltb h p.cic.hosts l)

-- so an index that is read is that of a configured host
pub read_there : (p : Prioritised) (o h : ℕ) → read_refusal true o (host_access p h) ≡ carried_out → h < p.cic.hosts
read_there p o h e = go (dec_lt h p.cic.hosts)
  where
    go : Dec (h < p.cic.hosts) → h < p.cic.hosts
    go (yes l) = l
    go (no n) = absurd (no_read o (ap (read_refusal true o) (not_there p h (omega (arith, n))) ∙ e))
