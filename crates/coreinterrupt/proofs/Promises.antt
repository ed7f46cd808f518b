-- The promises of CoreInterrupt, kept.
use Prim.Native.Nat.{ℕ, ◌<◌, ◌≤◌}
use mathlib.Core.Path.{◌≡◌, refl, sym}
use mathlib.Core.Logic.{inl}
use lib.Dec.{eqb}
use Rattle.steps.specs.Refusals.{read_refusal, write_refusal, line_refusal}
use Rattle.steps.specs.Tables.{ReadTable, WriteTable, LineTable}
use Rattle.steps.proofs.Promises.{read_table, write-table, line-table}
use Rattle.coreinterrupt.specs.declared.Core.{Core}
use Rattle.coreinterrupt.specs.declared.Answer.{Answer}
use Rattle.coreinterrupt.specs.Side.{side_write, moved}
use Rattle.coreinterrupt.specs.Model.{side, sound, answered, fiq_offset, register, access, value_at, written, read, write, fiq_line, input, line_moved, line}
use Rattle.coreinterrupt.specs.Promises.{Promises}
use Rattle.coreinterrupt.proofs.AnswerLaws.{carried, stopped, either_way, number_is}
use Rattle.coreinterrupt.proofs.ModelLaws.{sound-is, step-sound, step-refused, zero-fiq, zero-irq, spare-irq, spare-fiq, fiq-offset, irq-offset, fiq-line, irq-line, with-irq, with-fiq}
use Rattle.coreinterrupt.proofs.OutputLaws.{shown, hidden, irq-active, fiq-active, irq_level, fiq_level, levels_small}
use Rattle.coreinterrupt.proofs.StartLaws.{configuration, start-refused, start-zeros, start-taken, start-sound}
use Rattle.coreinterrupt.proofs.TableLaws.{the-map, reads_of, writes_of, lines_of}

-- ---- the tables

reads : (c : Core) (o : ℕ) → ReadTable (sound c) o (access c o) (read c o).refusal
unfolding read
reads c o = rw (number_is c (read_refusal (sound c) o (access c o)) (answered c (value_at c o)) refl) (read_table (sound c) o (access c o))

writes : (c : Core) (o v : ℕ) → WriteTable (sound c) o (access c o) 0 (write c o v).refusal
unfolding write
writes c o v =
    rw (number_is c (write_refusal (sound c) o (access c o) 0) (answered (written c o v) 0) refl)
    (write-table 0 (inl refl) (sound c) o (access c o))

lines : (c : Core) (k l : ℕ) → LineTable (sound c) 40 k l (line c k l).refusal
unfolding line
lines c k l =
    rw (number_is c (line_refusal (sound c) 40 k l) (answered (line_moved c k (eqb l 1)) 0) refl) (line-table (sound c) 40 k l)

-- ---- what a step answers, and what it leaves alone

read_keeps : (c : Core) (o : ℕ) → (read c o).core ≡ c
unfolding read
read_keeps c o = either_way (λ (a : Answer). a.core ≡ c) c (read_refusal (sound c) o (access c o)) (answered c (value_at c o)) refl refl

write-value : (c : Core) (o v : ℕ) → (write c o v).value ≡ 0
unfolding write
write-value c o v =
    either_way (λ (a : Answer). a.value ≡ 0) c (write_refusal (sound c) o (access c o) 0) (answered (written c o v) 0) refl refl

line-value : (c : Core) (k l : ℕ) → (line c k l).value ≡ 0
unfolding line
line-value c k l =
    either_way (λ (a : Answer). a.value ≡ 0) c (line_refusal (sound c) 40 k l) (answered (line_moved c k (eqb l 1)) 0) refl refl

write-irq : (c : Core) (o v : ℕ) → o < 0x18 → (write c o v).core.irq ≡ c.irq
unfolding write written
write-irq c o v l =
    either_way (λ (a : Answer). a.core.irq ≡ c.irq) c (write_refusal (sound c) o (access c o) 0) (answered (written c o v) 0)
    (with-irq c (fiq_offset o) (side_write (side c (fiq_offset o)) (register o) v) (fiq-offset o l)) refl

write-fiq : (c : Core) (o v : ℕ) → 0x18 ≤ o → (write c o v).core.fiq ≡ c.fiq
unfolding write written
write-fiq c o v l =
    either_way (λ (a : Answer). a.core.fiq ≡ c.fiq) c (write_refusal (sound c) o (access c o) 0) (answered (written c o v) 0)
    (with-fiq c (fiq_offset o) (side_write (side c (fiq_offset o)) (register o) v) (irq-offset o l)) refl

line-fiq : (c : Core) (k l : ℕ) → k < 32 → (line c k l).core.fiq ≡ c.fiq
unfolding line line_moved
line-fiq c k l p =
    either_way (λ (a : Answer). a.core.fiq ≡ c.fiq) c (line_refusal (sound c) 40 k l) (answered (line_moved c k (eqb l 1)) 0)
    (with-fiq c (fiq_line k) (moved (side c (fiq_line k)) (input k) (eqb l 1)) (irq-line k p)) refl

line-irq : (c : Core) (k l : ℕ) → 32 ≤ k → (line c k l).core.irq ≡ c.irq
unfolding line line_moved
line-irq c k l p =
    either_way (λ (a : Answer). a.core.irq ≡ c.irq) c (line_refusal (sound c) 40 k l) (answered (line_moved c k (eqb l 1)) 0)
    (with-irq c (fiq_line k) (moved (side c (fiq_line k)) (input k) (eqb l 1)) (fiq-line k p)) refl

pub kept : Promises
kept =
    record {
      configuration = configuration;
      start_taken = start-taken;
      start_refused = start-refused;
      start_zeros = start-zeros;
      start_sound = start-sound;
      step_is = λ c. ((λ o. refl), (λ o v. refl), (λ k l. refl));
      sound_is = sound-is;
      step_sound = step-sound;
      answered_is = λ c v. refl;
      refused_is = λ c n. refl;
      unless_is = λ c n a. ((λ e. sym (carried c n e)), (λ d. sym (stopped c n a d)));
      refused_same = step-refused;
      write_value = write-value;
      line_value = line-value;
      read_numbers = reads;
      write_numbers = writes;
      line_numbers = lines;
      map = the-map;
      reads = reads_of;
      writes = λ c v ok. writes_of c ok v;
      line_moves = λ c l ok. lines_of c ok l;
      read_keeps = read_keeps;
      no_fiq_sources = zero-fiq;
      no_irq_sources = zero-irq;
      write_side = λ c o v. (write-irq c o v, write-fiq c o v);
      line_side = λ c k l. (line-fiq c k l, line-irq c k l);
      spare_irq = spare-irq;
      spare_fiq = spare-fiq;
      outputs_sound = shown;
      outputs_unsound = hidden;
      irq_active = irq-active;
      fiq_active = fiq-active;
      irq_level = irq_level;
      fiq_level = fiq_level;
      levels_small = levels_small;
    }
