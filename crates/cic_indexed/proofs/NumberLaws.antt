-- By which number a step is refused, and that one that is refused changes nothing.
use mathlib.Core.Bool.{Bool}
use mathlib.Core.Logic.{◌≢◌, ◌⊎◌, inl, inr}
use mathlib.Core.Path.{◌≡◌, refl, sym, ap, subst, ◌∙◌}
use Prim.Native.Nat.{ℕ}
use native.Mathlib.Omega.{arith}
use borrow.Author.Tests.{ne_eqb}
use lib.Dec.{eqb}
use Rattle.words.specs.Choice.{pick}
use Rattle.words.proofs.ChoiceLaws.{pick-false, pick_cases}
use Rattle.steps.specs.declared.Access.TheVariants.{ReadWrite}
use Rattle.steps.specs.declared.Step.{Step}
use Rattle.steps.specs.declared.Step.TheVariants.{Read, Write, Line}
use Rattle.steps.specs.Refusals.{carried_out, read_refusal, write_refusal, line_refusal}
use Rattle.steps.specs.Tables.{ReadTable, WriteTable, LineTable}
use Rattle.steps.proofs.Promises as checks
use Rattle.cic_record.specs.declared.Answer.{Answer as CicAnswer}
use Rattle.cic_record.specs.declared.Cic.{Cic}
use Rattle.cic_record.specs.Kinds.{system}
use Rattle.cic_record.specs.Record as record_of
use Rattle.cic_registers.specs.declared.layout.Register.{Register}
use Rattle.cic_registers.specs.declared.layout.Register.TheVariants.{Nothing}
use Rattle.cic_registers.specs.Map.{register_at, access}
use Rattle.cic_registers.proofs.LayoutPromises as layout
use Rattle.cic_registers.specs.Registers.{value_of, value_refusal, written_to}
use Rattle.cic_registers.proofs.WrittenLaws.{value_number}
use Rattle.cic_registers.specs.Model as cic
use Rattle.cic.proofs.StepLaws as of-cic
use Rattle.cic_held.specs.declared.Answer.{Answer}
use Rattle.cic_held.specs.declared.Prioritised.{Prioritised}
use Rattle.cic_held.specs.Held.{prioritised, with_global, sound, controlled}
use Rattle.cic_indexed.specs.declared.Own.{Own}
use Rattle.cic_indexed.specs.declared.Own.TheVariants.{Elsewhere, Control, GlobalIndex, HostIndex}
use Rattle.cic_indexed.specs.Registers.{own_at, host_access, access_of}
use Rattle.cic_indexed.specs.Model.{refused, answered, beside, read_as, written_by, write_as, step_as, read, write, line, step}
use Rattle.cic_indexed.proofs.StepLaws.{its_number, its-record}
use Rattle.cic_indexed.specs.Tables.{access_at}
use Rattle.cic_indexed.proofs.PlaceLaws.{Place, control, global, indices, other, place, on_or-not}

-- ---- the CIC's steps, of a record that is sound or not

cic-read : (ok : Bool) (c : Cic) (o : ℕ) → (cic.read_as ok c o).refusal ≡ read_refusal ok o (access c o)
unfolding cic.read_as
cic-read ok c o = of-cic.its_number c (read_refusal ok o (access c o)) (record_of.answered c (value_of c (register_at o))) refl

cic-write : (ok : Bool) (c : Cic) (o v : ℕ) → (cic.write_as ok c o v).refusal ≡ write_refusal ok o (access c o) (cic.refusal_at c o v)
unfolding cic.write_as
cic-write ok c o v = of-cic.its_number c (write_refusal ok o (access c o) (cic.refusal_at c o v)) (record_of.answered (written_to c (register_at o) v) 0) refl

cic-line : (ok : Bool) (c : Cic) (s l : ℕ) → (cic.line_as ok c s l).refusal ≡ line_refusal ok c.systems s l
unfolding cic.line_as
cic-line ok c s l = of-cic.its_number c (line_refusal ok c.systems s l) (record_of.answered (cic.moved c (system s) (eqb l 1)) 0) refl

-- ---- reads

read_number : (ok : Bool) (p : Prioritised) (o : ℕ) (at : Own) → (read_as ok p o at).refusal ≡ read_refusal ok o (access_of p o at)
unfolding read_as access_of
read_number ok p o Elsewhere = cic-read ok p.cic o
read_number ok p o Control = its_number p (read_refusal ok o ReadWrite) _ refl
read_number ok p o GlobalIndex = its_number p (read_refusal ok o ReadWrite) _ refl
read_number ok p o (HostIndex h) = its_number p (read_refusal ok o (host_access p h.0)) _ refl

pub read_refusal_lem : (p : Prioritised) (o : ℕ) → (read p o).refusal ≡ read_refusal (sound p) o (access_at p o)
unfolding step_as
read_refusal_lem p o = read_number (sound p) p o (own_at p o)

pub read_numbers : (p : Prioritised) (o : ℕ) → ReadTable (sound p) o (access_at p o) (read p o).refusal
read_numbers p o = subst (ReadTable (sound p) o (access_at p o)) (sym (read_refusal_lem p o)) ((checks.kept).reads (sound p) o (access_at p o))

-- ---- writes

-- none of its own registers refuses a value
never : (c : Cic) (o v : ℕ) → register_at o ≡ Nothing → carried_out ≡ cic.refusal_at c o v
unfolding value_refusal
never c o v e = sym (ap (λ (r : Register). value_refusal c r v) e)

its_own : (p : Prioritised) (o v : ℕ) → own_at p o ≢ Elsewhere → carried_out ≡ cic.refusal_at p.cic o v
its_own p o v d = go (on_or-not p o)
  where
    at : Place p o → carried_out ≡ cic.refusal_at p.cic o v
    at (control e _) = never p.cic o v (ap register_at e ∙ (layout.kept).no_control)
    at (global e _) = never p.cic o v (ap register_at e ∙ (layout.kept).no_global_index)
    at (indices l m _) = never p.cic o v ((layout.kept).no_host_indices o l (omega (arith, m)))
    at (other _ _ _ e) = absurd (d e)

    go : (p.held.choice ≡ 1) ⊎ (own_at p o ≡ Elsewhere) → carried_out ≡ cic.refusal_at p.cic o v
    go (inl z) = at (place p o z)
    go (inr e) = absurd (d e)

-- 0 where it is the CIC's
tag : Own → ℕ
tag Elsewhere = 0
tag Control = 1
tag GlobalIndex = 1
tag (HostIndex h) = 1

apart : {at : Own} → tag at ≡ 1 → at ≢ Elsewhere
unfolding tag
apart {at} e f = go (sym (ap tag f) ∙ e)
  where
    go : ◌≡◌ {A = ℕ} 0 1 → ⊥
    go g = omega (arith, g)

-- what the CIC refuses is refused
pub written_number : (p : Prioritised) (o v : ℕ) (a : CicAnswer) → (written_by p o v a).refusal ≡ a.refusal
written_number p o v a = pick_cases (λ (b : Answer). b.refusal ≡ a.refusal) (eqb a.refusal carried_out) (λ _. refl) (λ _. refl)

write_number : (ok : Bool) (p : Prioritised) (o v : ℕ) (at : Own) → (at ≢ Elsewhere → carried_out ≡ cic.refusal_at p.cic o v)
    → (write_as ok p o v at).refusal ≡ write_refusal ok o (access_of p o at) (cic.refusal_at p.cic o v)
unfolding write_as access_of tag
write_number ok p o v Elsewhere z = written_number p o v (cic.write_as ok p.cic o v) ∙ cic-write ok p.cic o v
write_number ok p o v Control z = its_number p (write_refusal ok o ReadWrite carried_out) _ refl ∙ ap (write_refusal ok o ReadWrite) (z (apart refl))
write_number ok p o v GlobalIndex z = its_number p (write_refusal ok o ReadWrite carried_out) _ refl ∙ ap (write_refusal ok o ReadWrite) (z (apart refl))
write_number ok p o v (HostIndex h) z =
    its_number p (write_refusal ok o (host_access p h.0) carried_out) _ refl ∙ ap (write_refusal ok o (host_access p h.0)) (z (apart refl))

pub write_refusal_lem : (p : Prioritised) (o v : ℕ) → (write p o v).refusal ≡ write_refusal (sound p) o (access_at p o) (cic.refusal_at p.cic o v)
unfolding step_as
write_refusal_lem p o v = write_number (sound p) p o v (own_at p o) (its_own p o v)

pub write_numbers : (p : Prioritised) (o v : ℕ) → WriteTable (sound p) o (access_at p o) (cic.refusal_at p.cic o v) (write p o v).refusal
write_numbers p o v =
    subst (WriteTable (sound p) o (access_at p o) (cic.refusal_at p.cic o v)) (sym (write_refusal_lem p o v))
    ((checks.kept).writes (sound p) o (access_at p o) (cic.refusal_at p.cic o v) (value_number p.cic (register_at o) v))

-- ---- line steps

pub line_numbers : (p : Prioritised) (s l : ℕ) → LineTable (sound p) p.cic.systems s l (line p s l).refusal
unfolding step_as
line_numbers p s l =
    subst (LineTable (sound p) p.cic.systems s l) (sym (cic-line (sound p) p.cic s l)) ((checks.kept).lines (sound p) p.cic.systems s l)

-- ---- a step that is refused changes nothing

cic-same : (ok : Bool) (c : Cic) (x : Step) → (cic.step_as ok c x).refusal ≢ carried_out → cic.step_as ok c x ≡ record_of.refused c (cic.step_as ok c x).refusal
unfolding cic.step_as cic.read_as cic.write_as cic.line_as
cic-same ok c (Read o) d = of-cic.its-record c (read_refusal ok o (access c o)) (record_of.answered c (value_of c (register_at o))) refl d
cic-same ok c (Write o v) d =
    of-cic.its-record c (write_refusal ok o (access c o) (cic.refusal_at c o v)) (record_of.answered (written_to c (register_at o) v) 0) refl d
cic-same ok c (Line s l) d = of-cic.its-record c (line_refusal ok c.systems s l) (record_of.answered (cic.moved c (system s) (eqb l 1)) 0) refl d

read_same : (ok : Bool) (p : Prioritised) (o : ℕ) (at : Own) → (read_as ok p o at).refusal ≢ carried_out → read_as ok p o at ≡ refused p (read_as ok p o at).refusal
unfolding read_as cic.step_as
read_same ok p o Elsewhere d = ap (λ (a : CicAnswer). beside p.held a) (cic-same ok p.cic (Read o) d)
read_same ok p o Control d = its-record p (read_refusal ok o ReadWrite) _ refl d
read_same ok p o GlobalIndex d = its-record p (read_refusal ok o ReadWrite) _ refl d
read_same ok p o (HostIndex h) d = its-record p (read_refusal ok o (host_access p h.0)) _ refl d

-- a write that the CIC refuses
pub written-refused : (p : Prioritised) (o v : ℕ) (a : CicAnswer) → a.refusal ≢ carried_out → written_by p o v a ≡ refused p a.refusal
written-refused p o v a d = sym (pick-false _ (ne_eqb a.refusal carried_out d))

write_same : (ok : Bool) (p : Prioritised) (o v : ℕ) (at : Own) → (write_as ok p o v at).refusal ≢ carried_out → write_as ok p o v at ≡ refused p (write_as ok p o v at).refusal
unfolding write_as
write_same ok p o v Elsewhere d =
    let a = cic.write_as ok p.cic o v in
    written-refused p o v a (λ e. d (written_number p o v a ∙ e)) ∙ ap (refused p) (sym (written_number p o v a))
write_same ok p o v Control d = its-record p (write_refusal ok o ReadWrite carried_out) _ refl d
write_same ok p o v GlobalIndex d = its-record p (write_refusal ok o ReadWrite carried_out) _ refl d
write_same ok p o v (HostIndex h) d = its-record p (write_refusal ok o (host_access p h.0) carried_out) _ refl d

pub refused-same : (p : Prioritised) (x : Step) → (step p x).refusal ≢ carried_out → step p x ≡ refused p (step p x).refusal
unfolding step_as cic.step_as
refused-same p (Read o) d = read_same (sound p) p o (own_at p o) d
refused-same p (Write o v) d = write_same (sound p) p o v (own_at p o) d
refused-same p (Line s l) d = ap (λ (a : CicAnswer). beside p.held a) (cic-same (sound p) p.cic (Line s l) d)

-- ---- writes and line steps answer 0

cic-written : (ok : Bool) (c : Cic) (o v : ℕ) → (cic.write_as ok c o v).value ≡ 0
unfolding cic.write_as
cic-written ok c o v = pick_cases (λ (a : CicAnswer). a.value ≡ 0) (eqb (write_refusal ok o (access c o) (cic.refusal_at c o v)) carried_out) (λ _. refl) (λ _. refl)

zero-value : (p : Prioritised) (n : ℕ) (q : Prioritised) → (pick (eqb n carried_out) (answered q 0) (refused p n)).value ≡ 0
zero-value p n q = pick_cases (λ (a : Answer). a.value ≡ 0) (eqb n carried_out) (λ _. refl) (λ _. refl)

written-value : (ok : Bool) (p : Prioritised) (o v : ℕ) (at : Own) → (write_as ok p o v at).value ≡ 0
unfolding write_as
written-value ok p o v Elsewhere =
    pick_cases (λ (a : Answer). a.value ≡ 0) (eqb (cic.write_as ok p.cic o v).refusal carried_out) (λ _. cic-written ok p.cic o v) (λ _. refl)
written-value ok p o v Control = zero-value p (write_refusal ok o ReadWrite carried_out) (prioritised p.cic (controlled p.held v))
written-value ok p o v GlobalIndex = zero-value p (write_refusal ok o ReadWrite carried_out) (prioritised p.cic (with_global p.held 0))
written-value ok p o v (HostIndex h) = zero-value p (write_refusal ok o (host_access p h.0) carried_out) _

pub write-value : (p : Prioritised) (o v : ℕ) → (write p o v).value ≡ 0
unfolding step_as
write-value p o v = written-value (sound p) p o v (own_at p o)

pub line-value : (p : Prioritised) (s l : ℕ) → (line p s l).value ≡ 0
unfolding step_as cic.line_as
line-value p s l = pick_cases (λ (a : CicAnswer). a.value ≡ 0) (eqb (line_refusal (sound p) p.cic.systems s l) carried_out) (λ _. refl) (λ _. refl)
