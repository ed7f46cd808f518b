-- The promises of the controller, kept.
use Prim.Native.Nat.{ℕ, ◌%◌}
use mathlib.Core.Path.{◌≡◌, refl, sym, ◌∙◌}
use mathlib.Core.Bool.{◌&&◌}
use mathlib.Core.Logic.{◌≢◌}
use native.Mathlib.Omega.{arith}
use lib.Dec.{eqb, ltb, leb}
use borrow.Author.Tests.{eqb-true, ltb-true, lt-ltb}
use Rattle.words.specs.Choice.{pick}
use Rattle.words.proofs.ChoiceLaws.{pick_cases}
use Rattle.steps.specs.declared.Access.{Access}
use Rattle.steps.specs.declared.Access.TheVariants.{NoRegister, ReadOnly, WriteOnly, ReadWrite}
use Rattle.steps.specs.declared.Step.{Step}
use Rattle.steps.specs.declared.Step.TheVariants.{Read, Write, Line}
use Rattle.steps.specs.Refusals.{carried_out, read_access, read_refusal, line_refusal}
use Rattle.steps.specs.Tables.{ReadTable, WriteTable, LineTable}
use Rattle.steps.proofs.Promises.{read_table, write-table, line-table}
use Rattle.aic_record.specs.declared.Aic.{Aic}
use Rattle.aic_record.specs.Sound.{protects, sound}
use Rattle.aic_record.proofs.Promises as record-promises
use Rattle.aic_sources.specs.Fast.{fast_asks}
use Rattle.aic_sources.specs.Normal.{candidates}
use Rattle.aic_registers.specs.declared.Answer.{Answer}
use Rattle.aic_registers.specs.Map.{ivr, fvr, access}
use Rattle.aic_registers.specs.Handlers.{answered, refused, ivr_looked, ivr_taken, ivr_read, fvr_read}
use Rattle.aic_registers.specs.Effects.{moved}
use Rattle.aic_registers.specs.Registers.{read_at, written_at}
use Rattle.aic.specs.Model.{within, start, read_number, write_number, line_number, read, write, line, step, outputs}
use Rattle.aic.specs.Promises.{Promises}
use Rattle.aic.proofs.StepKindLaws.{value_number}
use Rattle.aic.proofs.SoundLaws.{step-sound, step_shaped}
use Rattle.aic.proofs.EffectLaws.{the-map, reads_of, writes_of}
use Rattle.aic.proofs.HandlerLaws.{vector-read, vector-spurious, vector_full, vector_forced, fast-read, fast-spurious, fast_forced, line_moves, line_repeated, edge-falls, edge-rises}
use Rattle.aic.proofs.MarkLaws.{isr-mark, close_last, spurious-ended}
use Rattle.aic.proofs.SeenLaws.{look_source, look_none, begin_source, begin-none, begin_full, begin-nothing, leave_forgets, stay-keeps}
use Rattle.aic.proofs.IdleLaws.{mask-idle, look_again, seen-kept, seen-idle, seen-outputs}

-- ---- refusals

read-carried : (s : Aic) (o : ℕ) → (read_at s o).refusal ≡ carried_out
unfolding read_at ivr_read ivr_looked ivr_taken fvr_read
read-carried s o =
    pick_cases A (eqb o ivr)
    (λ _. pick_cases A (protects s) (λ _. pick_cases A (candidates s) (λ _. refl) (λ _. refl)) (λ _. pick_cases A (candidates s) (λ _. refl) (λ _. refl)))
    (λ _. pick_cases A (eqb o fvr) (λ _. pick_cases A (fast_asks s) (λ _. refl) (λ _. refl)) (λ _. refl))
  where
    A : Answer → Type 0
    A a = a.refusal ≡ carried_out

-- a step that is carried out if n is 0, and else refused by n
module _ (s : Aic) (n : ℕ) (a : Answer) (done : a.refusal ≡ carried_out) where
  number-given : (pick (eqb n carried_out) a (refused s n)).refusal ≡ n
  number-given = pick_cases (λ (r : Answer). r.refusal ≡ n) (eqb n carried_out) (λ e. done ∙ sym (eqb-true n carried_out e)) (λ _. refl)

  refused-same : (pick (eqb n carried_out) a (refused s n)).refusal ≢ carried_out
      → pick (eqb n carried_out) a (refused s n) ≡ refused s (pick (eqb n carried_out) a (refused s n)).refusal
  refused-same = pick_cases (λ (r : Answer). r.refusal ≢ carried_out → r ≡ refused s r.refusal) (eqb n carried_out) (λ _ d. absurd (d done)) (λ _ _. refl)

step-refused : (s : Aic) (x : Step) → (step s x).refusal ≢ carried_out → step s x ≡ refused s (step s x).refusal
unfolding read write line
step-refused s (Read o) = refused-same s (read_number s o) (read_at s o) (read-carried s o)
step-refused s (Write o v) = refused-same s (write_number s o v) _ refl
step-refused s (Line k l) = refused-same s (line_number s k l) _ refl

reads-table : (s : Aic) (o : ℕ) → ReadTable (sound s) o (access o) (read s o).refusal
unfolding read read_number
reads-table s o = rw (number-given s (read_number s o) (read_at s o) (read-carried s o)) (read_table (sound s) o (access o))

writes-table : (s : Aic) (o v : ℕ) → WriteTable (sound s) o (access o) carried_out (write s o v).refusal
unfolding write write_number
writes-table s o v = rw (number-given s (write_number s o v) (answered (written_at s o v) 0) refl) (write-table carried_out value_number (sound s) o (access o))

lines-table : (s : Aic) (k l : ℕ) → LineTable (sound s) 32 k l (line s k l).refusal
unfolding line line_number
lines-table s k l = rw (number-given s (line_number s k l) (answered (moved s k (eqb l 1)) 0) refl) (line-table (sound s) 32 k l)

write-value : (s : Aic) (o v : ℕ) → (write s o v).value ≡ 0
unfolding write
write-value s o v = pick_cases (λ (a : Answer). a.value ≡ 0) (eqb (write_number s o v) carried_out) (λ _. refl) (λ _. refl)

line-value : (s : Aic) (k l : ℕ) → (line s k l).value ≡ 0
unfolding line
line-value s k l = pick_cases (λ (a : Answer). a.value ≡ 0) (eqb (line_number s k l) carried_out) (λ _. refl) (λ _. refl)

-- 5 is no number of a read, of a line step, or of a write whose value is not refused
access_five : (a : Access) → read_access a ≢ 5
access_five NoRegister e = omega arith
access_five ReadOnly e = omega arith
access_five WriteOnly e = omega arith
access_five ReadWrite e = omega arith

never_five : (s : Aic) (x : Step) → (step s x).refusal ≢ 5
unfolding read line read_number line_number read_refusal line_refusal
never_five s (Read o) =
    rw (number-given s (read_number s o) (read_at s o) (read-carried s o))
    (pick_cases A (sound s) (λ _. pick_cases A (eqb (o % 4) 0) (λ _. access_five (access o)) (λ _ e. omega arith)) (λ _ e. omega arith))
  where
    A : ℕ → Type 0
    A n = n ≢ 5
never_five s (Write o v) = λ e. let h = (writes-table s o v).five.0 e in omega (arith, h.1.1.1)
never_five s (Line k l) =
    rw (number-given s (line_number s k l) (answered (moved s k (eqb l 1)) 0) refl)
    (pick_cases A (sound s) (λ _. pick_cases A (ltb k 32 && leb l 1) (λ _ e. omega arith) (λ _ e. omega arith)) (λ _ e. omega arith))
  where
    A : ℕ → Type 0
    A n = n ≢ 5

pub kept : Promises
unfolding within start outputs pick
kept =
    record {
      configuration = λ nth value. (ltb-true nth 2, lt-ltb nth 2);
      start_taken = λ external lines. refl;
      start_is = (record-promises.kept).reset_is;
      start_sound = λ external lines. ((record-promises.kept).reset_sound external lines, (record-promises.kept).reset_shaped external lines);
      step_is = λ s o v k l. (refl, refl, refl);
      answered_is = λ s v. refl;
      refused_is = λ s n. refl;
      vector_is = λ s k. refl;
      protects_is = λ s. refl;
      step_sound = step-sound;
      step_shaped = step_shaped;
      refused_same = step-refused;
      write_value = write-value;
      line_value = line-value;
      read_numbers = reads-table;
      write_numbers = writes-table;
      line_numbers = lines-table;
      never_five = never_five;
      map = the-map;
      reads = reads_of;
      writes = λ s v ok. writes_of s ok v;
      vector_read = λ s k ok. vector-read s ok k;
      vector_spurious = vector-spurious;
      vector_full = vector_full;
      look_source = λ s k ok. look_source s ok k;
      look_none = look_none;
      look_again = look_again;
      begin_source = λ s v ok. begin_source s ok v;
      begin_none = λ s v ok. begin-none s ok v;
      begin_full = λ s v ok. begin_full s ok v;
      begin_nothing = λ s v ok. begin-nothing s ok v;
      leave_forgets = λ s v ok. leave_forgets s ok v;
      stay_keeps = λ s v ok. stay-keeps s ok v;
      seen_kept = seen-kept;
      seen_idle = λ s n x ok also f. seen-idle s x ok f n also;
      seen_outputs = seen-outputs;
      vector_forced = vector_forced;
      isr_mark = isr-mark;
      close_last = λ s v ok. close_last s ok v;
      spurious_ended = λ s v h ok. spurious-ended s ok v h;
      fast_read = λ s k ok. fast-read s ok k;
      fast_spurious = fast-spurious;
      fast_forced = fast_forced;
      line_moves = λ s k l ok. line_moves s ok k l;
      edge_falls = edge-falls;
      edge_rises = edge-rises;
      line_repeated = line_repeated;
      mask_idle = λ s m x ok l e. mask-idle s m ok l e x;
      outputs_sound = λ s ok. rw ok;
      outputs_unsound = λ s e. rw e;
    }
