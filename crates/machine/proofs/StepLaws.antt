-- Steps of a machine by its kind: what they are, that they keep it sound, and what a refused one answers.
use Prim.Native.Nat.{ℕ}
use mathlib.Core.Path.{◌≡◌, refl, sym, ap, ◌∙◌}
use mathlib.Core.Bool.{true, false}
use mathlib.Core.Logic.{◌↔◌, ◌≢◌}
use native.Mathlib.Omega.{arith}
use Rattle.steps.specs.declared.Recorded.{Recorded}
use Rattle.steps.specs.declared.Step.{Step}
use Rattle.steps.specs.declared.Step.TheVariants.{Read, Write, Line}
use Rattle.steps.specs.Refusals.{carried_out, unsound}
use Rattle.aic_record.specs.Sound.{sound as aic_sound}
use Rattle.aic.specs.Model.{step as aic_step}
use Rattle.aic.proofs.Promises.{kept as aic}
use Rattle.coreinterrupt.specs.Model.{sound as core_sound, step as core_step}
use Rattle.coreinterrupt.proofs.Promises.{kept as core}
use Rattle.cic_record.specs.Sound.{sound as cic_sound}
use Rattle.cic_registers.specs.Model.{step as cic_step, step_as}
use Rattle.cic.proofs.Promises.{kept as cic}
use Rattle.cic_held.specs.declared.Prioritised.{Prioritised}
use Rattle.cic_held.specs.Held.{sound as indexed_sound}
use Rattle.cic_indexed.specs.Model.{step as indexed_step}
use Rattle.cic_indexed.proofs.Promises.{kept as prioritised}
use Rattle.aintc_registers.specs.Settle.{sound as aintc_sound}
use Rattle.aintc_registers.specs.Model.{step as aintc_step}
use Rattle.aintc.proofs.Promises.{kept as aintc}
use Rattle.machine.specs.declared.Answer.{Answer}
use Rattle.machine.specs.declared.record.Machine.{Machine}
use Rattle.kinds.specs.Kinds.{aic_kind, core_kind, cic_kind, aintc_kind, indexed_kind}
use Rattle.machine.specs.Machine.{indexed, sound}
use Rattle.machine.specs.Steps.{after_aic, after_core, after_cic, after_aintc, after_indexed, refused, step}
use Rattle.machine.specs.RecordPromises.{Ready}
use Rattle.kinds.proofs.KindLaws.{KindOf, is_aic, is_core, is_cic, is_aintc, is_indexed, is_none, kind_of, at_aic, at_core, at-cic, at_aintc, at_indexed, at_none}
use Rattle.machine.proofs.MachineLaws.{sound_aic, sound_core, sound-cic, sound_aintc, sound-indexed, sound_none}

-- ---- the step of each kind

module _ (m : Machine) (x : Recorded) where
  pub aic_steps : m.kind ≡ aic_kind → step m x ≡ after_aic m (aic_step m.aic x.step)
  unfolding step
  aic_steps e = sym (at_aic m.kind _ e)

  pub core_steps : m.kind ≡ core_kind → step m x ≡ after_core m (core_step m.core x.step)
  unfolding step
  core_steps e = sym (at_core m.kind _ e)

  pub cic_steps : m.kind ≡ cic_kind → step m x ≡ after_cic m (cic_step m.cic x.step)
  unfolding step
  cic_steps e = sym (at-cic m.kind _ e)

  pub aintc_steps : m.kind ≡ aintc_kind → step m x ≡ after_aintc m (aintc_step m.aintc x.privilege x.step)
  unfolding step
  aintc_steps e = sym (at_aintc m.kind _ e)

  pub indexed_steps : m.kind ≡ indexed_kind → step m x ≡ after_indexed m (indexed_step (indexed m) x.step)
  unfolding step
  indexed_steps e = sym (at_indexed m.kind _ e)

  -- with the choice off it is that of a CIC
  pub indexed-off : m.kind ≡ indexed_kind → sound m ≡ true → m.held.choice ≡ 0 → step m x ≡ after_cic m (cic_step m.cic x.step)
  indexed-off k s e = indexed_steps k ∙ ap (after_indexed m) (prioritised.off (indexed m) x.step (sound-indexed m k ∙ s) e)

  pub no_steps : m.kind ≢ aic_kind → m.kind ≢ core_kind → m.kind ≢ cic_kind → m.kind ≢ aintc_kind → m.kind ≢ indexed_kind → step m x ≡ refused m unsound
  unfolding step
  no_steps e f g h i = sym (at_none m.kind _ e f g h i)

  -- ---- soundness

  pub step-ready : Ready m → Ready (step m x).machine
  step-ready r = go (kind_of m.kind)
    where
      go : KindOf m.kind → Ready (step m x).machine
      go (is_aic k) =
          rw (aic_steps k) (
            sym (sound_aic _ k) ∙ aic.step_sound m.aic x.step r.1 (sound_aic m k ∙ r.0),
            aic.step_shaped m.aic x.step r.1,
          )
      go (is_core k) = rw (core_steps k) (sym (sound_core _ k) ∙ core.step_sound m.core x.step (sound_core m k ∙ r.0), r.1)
      go (is_cic k) = rw (cic_steps k) (sym (sound-cic _ k) ∙ cic.step_sound m.cic x.step (sound-cic m k ∙ r.0), r.1)
      go (is_aintc k) = rw (aintc_steps k) (sym (sound_aintc _ k) ∙ aintc.step_sound m.aintc x.privilege x.step (sound_aintc m k ∙ r.0), r.1)
      go (is_indexed k) = rw (indexed_steps k) (sym (sound-indexed _ k) ∙ prioritised.step_sound (indexed m) x.step (sound-indexed m k ∙ r.0), r.1)
      go (is_none a b c d e) = rw (no_steps a b c d e) r

  pub step-kind : (step m x).machine.kind ≡ m.kind
  step-kind = go (kind_of m.kind)
    where
      go : KindOf m.kind → (step m x).machine.kind ≡ m.kind
      go (is_aic k) = ap (λ (a : Answer). a.machine.kind) (aic_steps k)
      go (is_core k) = ap (λ (a : Answer). a.machine.kind) (core_steps k)
      go (is_cic k) = ap (λ (a : Answer). a.machine.kind) (cic_steps k)
      go (is_aintc k) = ap (λ (a : Answer). a.machine.kind) (aintc_steps k)
      go (is_indexed k) = ap (λ (a : Answer). a.machine.kind) (indexed_steps k)
      go (is_none a b c d e) = ap (λ (r : Answer). r.machine.kind) (no_steps a b c d e)

  -- ---- refusals

  abbrev Same : Answer → Type 0
  Same a = a.refusal ≢ carried_out → a ≡ refused m a.refusal

  pub refused-same : Same (step m x)
  refused-same = go (kind_of m.kind)
    where
      go : KindOf m.kind → Same (step m x)
      go (is_aic k) = rw (aic_steps k) (λ z. ap (after_aic m) (aic.refused_same m.aic x.step z))
      go (is_core k) = rw (core_steps k) (λ z. ap (after_core m) (core.refused_same m.core x.step z))
      go (is_cic k) = rw (cic_steps k) (λ z. ap (after_cic m) (cic.refused_same m.cic x.step z))
      go (is_aintc k) = rw (aintc_steps k) (λ z. ap (after_aintc m) (aintc.refused_same m.aintc x.privilege x.step z))
      go (is_indexed k) = rw (indexed_steps k) (λ z. ap (after_indexed m) (prioritised.refused_same (indexed m) x.step z))
      go (is_none a b c d e) = rw (no_steps a b c d e) (λ z. refl)

-- ---- 12

aic_twelve : (m : Machine) (x : Step) → ((aic_step m.aic x).refusal ≡ unsound) ↔ (aic_sound m.aic ≡ false)
aic_twelve m (Read o) = (aic.read_numbers m.aic o).twelve
aic_twelve m (Write o v) = (aic.write_numbers m.aic o v).twelve
aic_twelve m (Line k l) = (aic.line_numbers m.aic k l).twelve

core_twelve : (m : Machine) (x : Step) → ((core_step m.core x).refusal ≡ unsound) ↔ (core_sound m.core ≡ false)
core_twelve m (Read o) = (core.read_numbers m.core o).twelve
core_twelve m (Write o v) = (core.write_numbers m.core o v).twelve
core_twelve m (Line k l) = (core.line_numbers m.core k l).twelve

cic_twelve : (m : Machine) (x : Step) → ((cic_step m.cic x).refusal ≡ unsound) ↔ (cic_sound m.cic ≡ false)
unfolding step_as
cic_twelve m (Read o) = (cic.read_numbers m.cic o).twelve
cic_twelve m (Write o v) = (cic.write_numbers m.cic o v).twelve
cic_twelve m (Line k l) = (cic.line_numbers m.cic k l).twelve

aintc_twelve : (m : Machine) (p : ℕ) (x : Step) → ((aintc_step m.aintc p x).refusal ≡ unsound) ↔ (aintc_sound m.aintc ≡ false)
aintc_twelve m p (Read o) = (aintc.read_numbers m.aintc p o).twelve
aintc_twelve m p (Write o v) = (aintc.write_numbers m.aintc p o v).twelve
aintc_twelve m p (Line k l) = (aintc.line_numbers m.aintc k l).twelve

indexed_twelve : (p : Prioritised) (x : Step) → ((indexed_step p x).refusal ≡ unsound) ↔ (indexed_sound p ≡ false)
indexed_twelve p (Read o) = (prioritised.read_numbers p o).twelve
indexed_twelve p (Write o v) = (prioritised.write_numbers p o v).twelve
indexed_twelve p (Line k l) = (prioritised.line_numbers p k l).twelve

pub twelve : (m : Machine) (x : Recorded) → ((step m x).refusal ≡ unsound) ↔ (sound m ≡ false)
twelve m x = go (kind_of m.kind)
  where
    go : KindOf m.kind → ((step m x).refusal ≡ unsound) ↔ (sound m ≡ false)
    go (is_aic k) = rw (aic_steps m x k) (rw (sym (sound_aic m k)) (aic_twelve m x.step))
    go (is_core k) = rw (core_steps m x k) (rw (sym (sound_core m k)) (core_twelve m x.step))
    go (is_cic k) = rw (cic_steps m x k) (rw (sym (sound-cic m k)) (cic_twelve m x.step))
    go (is_aintc k) = rw (aintc_steps m x k) (rw (sym (sound_aintc m k)) (aintc_twelve m x.privilege x.step))
    go (is_indexed k) = rw (indexed_steps m x k) (rw (sym (sound-indexed m k)) (indexed_twelve (indexed m) x.step))
    go (is_none a b c d e) = rw (no_steps m x a b c d e) (λ z. sym (sound_none m a b c d e), λ z. refl)

-- a machine that is not sound refuses every step by 12
pub unsound-step : (m : Machine) (x : Recorded) → sound m ≡ false → refused m unsound ≡ step m x
unsound-step m x e =
    let n : (step m x).refusal ≡ unsound = (twelve m x).1 e in
    sym (refused-same m x (λ z. omega arith) ∙ ap (refused m) n)
