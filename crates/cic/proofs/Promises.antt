-- The promises of the steps are kept.
use mathlib.Core.Path.{◌≡◌, refl, sym, ap, subst, ◌∙◌}
use mathlib.Core.Bool.{true}
use mathlib.Core.Logic.{◌≢◌}
use Prim.Native.Nat.{ℕ}
use borrow.Author.Tests.{eqb-true}
use lib.Dec.{eqb}
use Rattle.words.proofs.ChoiceLaws.{pick_cases}
use Rattle.steps.specs.declared.Step.{Step}
use Rattle.steps.specs.declared.Step.TheVariants.{Read, Write, Line}
use Rattle.steps.specs.Refusals.{carried_out, read_refusal, write_refusal, line_refusal}
use Rattle.steps.specs.Tables.{ReadTable, WriteTable, LineTable}
use Rattle.steps.proofs.Promises as checks
use Rattle.cic_record.specs.declared.Answer.{Answer}
use Rattle.cic_record.specs.declared.Cic.{Cic}
use Rattle.cic_record.specs.Kinds.{system}
use Rattle.cic_record.specs.Promises.{Shaped}
use Rattle.cic_record.specs.Record.{refused, answered}
use Rattle.cic_record.specs.Sound.{sound}
use Rattle.cic_registers.specs.Map.{register_at, access}
use Rattle.cic_registers.specs.Registers.{value_of, written_to}
use Rattle.cic_registers.proofs.WrittenLaws.{value_number, sound-written, shaped-written}
use Rattle.cic_registers.specs.Model.{refusal_at, read_as, write_as, moved, line_as, step_as, read, write, line, step}
use Rattle.cic.specs.Promises.{Promises}
use Rattle.cic.proofs.LineLaws.{moved-sound, moved_shaped, line_moves, line_bits, clears-high, index_clears-high}
use Rattle.cic.proofs.MapLaws.{the-map, the_limits}
use Rattle.cic.proofs.ReadLaws.{reads_of}
use Rattle.cic.proofs.StepLaws.{its_number, its-record}
use Rattle.cic.proofs.WriteLaws.{writes_of}

-- ---- the tables

read_numbers : (c : Cic) (offset : ℕ) → ReadTable (sound c) offset (access c offset) (read c offset).refusal
unfolding read_as
read_numbers c offset =
    subst (ReadTable (sound c) offset (access c offset)) (sym (its_number c (read_refusal (sound c) offset (access c offset)) (answered c (value_of c (register_at offset))) refl))
    ((checks.kept).reads (sound c) offset (access c offset))

write_numbers : (c : Cic) (offset v : ℕ) → WriteTable (sound c) offset (access c offset) (refusal_at c offset v) (write c offset v).refusal
unfolding write_as
write_numbers c offset v =
    subst (WriteTable (sound c) offset (access c offset) (refusal_at c offset v))
    (sym (its_number c (write_refusal (sound c) offset (access c offset) (refusal_at c offset v)) (answered (written_to c (register_at offset) v) 0) refl))
    ((checks.kept).writes (sound c) offset (access c offset) (refusal_at c offset v) (value_number c (register_at offset) v))

line_numbers : (c : Cic) (s level : ℕ) → LineTable (sound c) c.systems s level (line c s level).refusal
unfolding line_as
line_numbers c s level =
    subst (LineTable (sound c) c.systems s level) (sym (its_number c (line_refusal (sound c) c.systems s level) (answered (moved c (system s) (eqb level 1)) 0) refl))
    ((checks.kept).lines (sound c) c.systems s level)

-- ---- refused steps

refused-same : (c : Cic) (s : Step) → (step c s).refusal ≢ carried_out → step c s ≡ refused c (step c s).refusal
unfolding step_as read_as write_as line_as
refused-same c (Read offset) d = its-record c (read_refusal (sound c) offset (access c offset)) (answered c (value_of c (register_at offset))) refl d
refused-same c (Write offset v) d =
    its-record c (write_refusal (sound c) offset (access c offset) (refusal_at c offset v)) (answered (written_to c (register_at offset) v) 0) refl d
refused-same c (Line s level) d = its-record c (line_refusal (sound c) c.systems s level) (answered (moved c (system s) (eqb level 1)) 0) refl d

write-value : (c : Cic) (offset v : ℕ) → (write c offset v).value ≡ 0
unfolding write_as
write-value c offset v =
    pick_cases (λ (a : Answer). a.value ≡ 0) (eqb (write_refusal (sound c) offset (access c offset) (refusal_at c offset v)) carried_out) (λ _. refl) (λ _. refl)

line-value : (c : Cic) (s level : ℕ) → (line c s level).value ≡ 0
unfolding line_as
line-value c s level = pick_cases (λ (a : Answer). a.value ≡ 0) (eqb (line_refusal (sound c) c.systems s level) carried_out) (λ _. refl) (λ _. refl)

-- ---- a sound record stays sound, and every array at its length

write-sound : (c : Cic) (offset v : ℕ) → sound c ≡ true → sound (write c offset v).cic ≡ true
unfolding write_as
write-sound c offset v e =
    let n = write_refusal (sound c) offset (access c offset) (refusal_at c offset v) in
    pick_cases (λ (a : Answer). sound a.cic ≡ true) (eqb n carried_out)
    (λ t. sound-written c (register_at offset) v e
    (((checks.kept).writes (sound c) offset (access c offset) (refusal_at c offset v) (value_number c (register_at offset) v)).none.0 (eqb-true n carried_out t)).1.1.1)
    (λ _. e)

line-sound : (c : Cic) (s level : ℕ) → sound c ≡ true → sound (line c s level).cic ≡ true
unfolding line_as
line-sound c s level e =
    let n = line_refusal (sound c) c.systems s level in
    pick_cases (λ (a : Answer). sound a.cic ≡ true) (eqb n carried_out)
    (λ t. moved-sound c s (eqb level 1) e (((checks.kept).lines (sound c) c.systems s level).none.0 (eqb-true n carried_out t)).1.0) (λ _. e)

read_same : (c : Cic) (o : ℕ) → (read c o).cic ≡ c
unfolding read_as
read_same c o = pick_cases (λ (a : Answer). a.cic ≡ c) (eqb (read_refusal (sound c) o (access c o)) carried_out) (λ _. refl) (λ _. refl)

pub step-sound : (c : Cic) (x : Step) → sound c ≡ true → sound (step c x).cic ≡ true
unfolding step_as
step-sound c (Read o) e = ap sound (read_same c o) ∙ e
step-sound c (Write o v) e = write-sound c o v e
step-sound c (Line s l) e = line-sound c s l e

step_shaped : (c : Cic) (x : Step) → Shaped c → Shaped (step c x).cic
unfolding step_as write_as line_as
step_shaped c (Read o) h = subst Shaped (sym (read_same c o)) h
step_shaped c (Write o v) h =
    pick_cases (λ (a : Answer). Shaped a.cic) (eqb (write_refusal (sound c) o (access c o) (refusal_at c o v)) carried_out) (λ _. shaped-written c (register_at o) v h) (λ _. h)
step_shaped c (Line s l) h =
    pick_cases (λ (a : Answer). Shaped a.cic) (eqb (line_refusal (sound c) c.systems s l) carried_out) (λ _. moved_shaped c s (eqb l 1) h) (λ _. h)

pub kept : Promises
unfolding step_as
kept =
    record {
      step_is = λ c. (λ o. refl, λ o v. refl, λ s l. refl);
      step_sound = step-sound;
      step_shaped = step_shaped;
      refused_same = refused-same;
      write_value = write-value;
      line_value = line-value;
      read_same = read_same;
      read_numbers = read_numbers;
      write_numbers = write_numbers;
      line_numbers = line_numbers;
      map = the-map;
      limits = the_limits;
      reads = reads_of;
      writes = λ c v h ok. writes_of c h ok v;
      line_moves = line_moves;
      line_bits = λ c s l h ok there low. line_bits c s l ok there low h;
      clears_high = λ c s v h ok there high. clears-high c s h ok there high v;
      index_clears_high = index_clears-high;
    }
