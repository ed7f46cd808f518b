-- Steps that are the CIC's: all of them with the choice off, and those elsewhere whatever is held.
use mathlib.Core.Bool.{Bool, true}
use mathlib.Core.Logic.{◌≢◌, ◌⊎◌, inl, inr}
use mathlib.Core.Path.{◌≡◌, refl, sym, ap, ap₂, subst, ◌∙◌}
use Prim.Native.Nat.{ℕ, ◌+◌, ◌-◌, ◌*◌, ◌/◌, ◌≤◌, ◌<◌}
use native.Mathlib.Decide.{ℕ_discrete}
use native.Mathlib.Omega.{arith}
use borrow.Author.Tests.{eq-eqb, ne_eqb}
use lib.Dec.{eqb}
use Rattle.words.specs.Choice.{pick}
use Rattle.words.proofs.ChoiceLaws.{pick_true, pick-false}
use Rattle.steps.specs.declared.Access.{Access}
use Rattle.steps.specs.declared.Access.TheVariants.{NoRegister}
use Rattle.steps.specs.declared.Step.{Step}
use Rattle.steps.specs.declared.Step.TheVariants.{Read, Write, Line}
use Rattle.steps.specs.Refusals.{carried_out, read_refusal, write_refusal}
use Rattle.cic_record.specs.declared.Answer.{Answer as CicAnswer}
use Rattle.cic_record.specs.declared.Cic.{Cic}
use Rattle.cic_record.specs.Kinds.{host_number}
use Rattle.cic_record.specs.Record as record_of
use Rattle.cic_record.specs.Sound as cic-sound
use Rattle.cic_registers.specs.Map.{access}
use Rattle.cic_registers.specs.Model as cic
use Rattle.cic_registers.proofs.StepLaws as of_steps
use Rattle.cic.proofs.Promises as of-cic
use Rattle.cic_held.specs.declared.Answer.{Answer}
use Rattle.cic_held.specs.declared.Held.{Held}
use Rattle.cic_held.specs.declared.Prioritised.{Prioritised}
use Rattle.cic_held.specs.Held.{sound}
use Rattle.cic_indexed.specs.declared.Own.TheVariants.{Elsewhere, HostIndex}
use Rattle.cic_indexed.specs.Registers.{own_at, host_access, held_after}
use Rattle.cic_indexed.specs.Model.{refused, beside, read_as, written_by, write_as, step_as, read, write, line, step}
use Rattle.cic_indexed.proofs.SoundLaws.{sound-cic, both-sound, parts}
use Rattle.cic_indexed.proofs.StepLaws.{refused-by, no_read, no_write, not_there}
use Rattle.cic_indexed.proofs.NumberLaws.{written-refused}
use Rattle.cic_indexed.proofs.PlaceLaws.{Place, control, global, indices, other, place, on_or-not, nowhere}

-- ---- where no register of its own stands

pub lines : (p : Prioritised) (s l : ℕ) → sound p ≡ true → line p s l ≡ beside p.held (cic.line p.cic s l)
unfolding step_as
lines p s l e = ap (λ (t : Bool). beside p.held (cic.line_as t p.cic s l)) (both-sound p e)

pub plain-read : (p : Prioritised) (o : ℕ) → sound p ≡ true → own_at p o ≡ Elsewhere → read p o ≡ beside p.held (cic.read p.cic o)
unfolding step_as read_as
plain-read p o e at = ap (read_as (sound p) p o) at ∙ ap (λ (t : Bool). beside p.held (cic.read_as t p.cic o)) (both-sound p e)

pub plain-write : (p : Prioritised) (o v : ℕ) → sound p ≡ true → own_at p o ≡ Elsewhere → write p o v ≡ written_by p o v (cic.write p.cic o v)
unfolding step_as write_as
plain-write p o v e at = ap (write_as (sound p) p o v) at ∙ ap (λ (t : Bool). written_by p o v (cic.write_as t p.cic o v)) (both-sound p e)

-- what the CIC's write answers, with what is held then beside it
written-beside : (p : Prioritised) (o v : ℕ) (a : CicAnswer) → (a.refusal ≢ carried_out → a ≡ record_of.refused p.cic a.refusal)
    → written_by p o v a ≡ beside (written_by p o v a).prioritised.held a
written-beside p o v a same = go (ℕ_discrete a.refusal carried_out)
  where
    go : Dec (a.refusal ≡ carried_out) → written_by p o v a ≡ beside (written_by p o v a).prioritised.held a
    go (yes e) = rw (sym (pick_true {a = beside (pick (eqb p.held.hold 1) (held_after p.cic p.held o v) p.held) a} (refused p a.refusal) (eq-eqb a.refusal carried_out e))) refl
    go (no d) = rw (written-refused p o v a d) (sym (ap (λ (x : CicAnswer). beside p.held x) (same d)))

-- outside the mode a write ends nothing
pub written-plain : (p : Prioritised) (o v : ℕ) (a : CicAnswer) → p.held.hold ≢ 1 → (a.refusal ≢ carried_out → a ≡ record_of.refused p.cic a.refusal)
    → written_by p o v a ≡ beside p.held a
written-plain p o v a n same = go (ℕ_discrete a.refusal carried_out)
  where
    go : Dec (a.refusal ≡ carried_out) → written_by p o v a ≡ beside p.held a
    go (yes e) =
        sym (pick_true (refused p a.refusal) (eq-eqb a.refusal carried_out e))
        ∙ ap (λ (h : Held). beside h a) (sym (pick-false (held_after p.cic p.held o v) (ne_eqb p.held.hold 1 n)))
    go (no d) = written-refused p o v a d ∙ sym (ap (λ (x : CicAnswer). beside p.held x) (same d))

-- ---- with the choice off

pub off : (p : Prioritised) (x : Step) → sound p ≡ true → p.held.choice ≡ 0 → step p x ≡ beside p.held (cic.step p.cic x)
unfolding cic.step_as
off p (Read o) e z = plain-read p o e (nowhere p o z)
off p (Line s l) e z = lines p s l e
off p (Write o v) e z =
    plain-write p o v e (nowhere p o z)
    ∙ written-plain p o v (cic.write p.cic o v) (λ h. omega (arith, h, z, (parts p e).hold)) ((of-cic.kept).refused_same p.cic (Write o v))

-- ---- the indices of hosts that are not configured

cic-not-read : (c : Cic) (o : ℕ) → cic-sound.sound c ≡ true → access c o ≡ NoRegister → cic.read c o ≡ record_of.refused c (read_refusal true o NoRegister)
unfolding cic.read_as
cic-not-read c o e at = sym (of_steps.refused-by c _ (ap₂ (λ (t : Bool) (a : Access). read_refusal t o a) (sym e) (sym at)) (no_read o))

own-not-read : (p : Prioritised) (o h : ℕ) → sound p ≡ true → own_at p o ≡ HostIndex (host_number h) → NoRegister ≡ host_access p h → read p o ≡ refused p (read_refusal true o NoRegister)
unfolding step_as read_as
own-not-read p o h e at gone =
    ap (read_as (sound p) p o) at ∙ sym (refused-by p _ (ap₂ (λ (t : Bool) (a : Access). read_refusal t o a) (sym e) gone) (no_read o))

cic-not-written : (c : Cic) (o v : ℕ) → cic-sound.sound c ≡ true → access c o ≡ NoRegister → cic.write c o v ≡ record_of.refused c (write_refusal true o NoRegister 0)
unfolding cic.write_as write_refusal
cic-not-written c o v e at = sym (of_steps.refused-by c _ (ap₂ (λ (t : Bool) (a : Access). write_refusal t o a (cic.refusal_at c o v)) (sym e) (sym at)) (no_write o (cic.refusal_at c o v)))

pub own-not-written : (p : Prioritised) (o v h : ℕ) → sound p ≡ true → own_at p o ≡ HostIndex (host_number h) → NoRegister ≡ host_access p h → write p o v ≡ refused p (write_refusal true o NoRegister 0)
unfolding step_as write_as
own-not-written p o v h e at gone =
    ap (write_as (sound p) p o v) at ∙ sym (refused-by p _ (ap₂ (λ (t : Bool) (a : Access). write_refusal t o a carried_out) (sym e) gone) (no_write o carried_out))

-- ---- elsewhere, whatever is held

-- no register of its own stands at an offset outside its four places, also where the choice is off
module _ (p : Prioritised) (o : ℕ) (e : sound p ≡ true) (a : o ≢ 0x004) (b : o ≢ 0x080) (out : (o < 0x900) ⊎ (0x900 + 4 * p.cic.hosts ≤ o)) where
  -- the index of a host that is not configured
  beyond_hosts : 0x900 ≤ o → 0x900 + 4 * p.cic.hosts ≤ o
  beyond_hosts l = go out
    where
      go : (o < 0x900) ⊎ (0x900 + 4 * p.cic.hosts ≤ o) → 0x900 + 4 * p.cic.hosts ≤ o
      go (inl m) = absurd (omega (arith, l, m))
      go (inr m) = m

  pub reads-elsewhere : read p o ≡ beside p.held (cic.read p.cic o)
  reads-elsewhere = go (on_or-not p o)
    where
      at : Place p o → read p o ≡ beside p.held (cic.read p.cic o)
      at (control x _) = absurd (a x)
      at (global x _) = absurd (b x)
      at (indices l m x) =
          own-not-read p o ((o - 0x900) / 4) e x (not_there p ((o - 0x900) / 4) (omega (arith, beyond_hosts l)))
          ∙ sym (ap (λ (y : CicAnswer). beside p.held y) (cic-not-read p.cic o (sound-cic p e) (((of-cic.kept).map p.cic).no_host_indices o l (omega (arith, m)))))
      at (other _ _ _ x) = plain-read p o e x

      go : (p.held.choice ≡ 1) ⊎ (own_at p o ≡ Elsewhere) → read p o ≡ beside p.held (cic.read p.cic o)
      go (inl z) = at (place p o z)
      go (inr x) = plain-read p o e x

  pub writes-elsewhere : (v : ℕ) → write p o v ≡ beside (write p o v).prioritised.held (cic.write p.cic o v)
  writes-elsewhere v = go (on_or-not p o)
    where
      Same : Answer → Type 0
      Same x = x ≡ beside x.prioritised.held (cic.write p.cic o v)

      plain : own_at p o ≡ Elsewhere → Same (write p o v)
      plain x =
          subst Same (sym (plain-write p o v e x)) (written-beside p o v (cic.write p.cic o v) (unfold cic.step_as in (of-cic.kept).refused_same p.cic (Write o v)))

      at : Place p o → Same (write p o v)
      at (control x _) = absurd (a x)
      at (global x _) = absurd (b x)
      at (indices l m x) =
          subst Same (sym (own-not-written p o v ((o - 0x900) / 4) e x (not_there p ((o - 0x900) / 4) (omega (arith, beyond_hosts l)))))
          (sym (ap (λ (y : CicAnswer). beside p.held y) (cic-not-written p.cic o v (sound-cic p e) (((of-cic.kept).map p.cic).no_host_indices o l (omega (arith, m))))))
      at (other _ _ _ x) = plain x

      go : (p.held.choice ≡ 1) ⊎ (own_at p o ≡ Elsewhere) → Same (write p o v)
      go (inl z) = at (place p o z)
      go (inr x) = plain x
