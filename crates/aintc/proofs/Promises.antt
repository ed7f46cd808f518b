-- The promises of the controller, kept.
use Prim.Native.Nat.{ℕ, ◌+◌, ◌*◌, ◌<◌, ◌≤◌}
use mathlib.Core.Path.{◌≡◌, refl, sym, ap, ap₂, ◌∙◌}
use mathlib.Core.Bool.{Bool, true, false}
use mathlib.Core.List.{List}
use mathlib.Core.Logic.{◌↔◌, ◌≢◌}
use native.Mathlib.Omega.{arith}
use lib.Dec.{eqb}
use borrow.Author.Tests.{eqb-true, eq-eqb}
use Rattle.words.specs.Array.{bit_at, with_bit_at}
use Rattle.words.specs.Choice.{pick}
use Rattle.words.proofs.ArrayLaws.{bit_at-with_bit_at, zeros_get_d}
use Rattle.words.proofs.ChoiceLaws.{pick_true, pick_cases, pick-ap}
use Rattle.steps.specs.declared.Step.{Step}
use Rattle.steps.specs.declared.Step.TheVariants.{Read, Write, Line}
use Rattle.steps.specs.Refusals.{carried_out, read_refusal, write_refusal}
use Rattle.steps.specs.Tables.{LineTable}
use Rattle.steps.proofs.Promises.{line-table}
use Rattle.aintc_record.specs.declared.Aintc.{Aintc}
use Rattle.aintc_record.specs.declared.Chosen.{Chosen}
use Rattle.aintc_record.specs.Promises.{Shaped, Bounds}
use Rattle.aintc_record.specs.Record.{with_lines, with_soft, with_threshold, reset}
use Rattle.aintc_record.specs.Route.{routed}
use Rattle.aintc_record.proofs.Promises as record-promises
use Rattle.aintc_registers.specs.Inputs.{raised, unmasked, pending, pending_word}
use Rattle.aintc_registers.specs.Settle.{settle, sound}
use Rattle.aintc_registers.proofs.Promises as choice-promises
use Rattle.aintc_registers.specs.declared.Answer.{Answer}
use Rattle.aintc_registers.specs.Effects.{written_at, moved}
use Rattle.aintc_registers.specs.Map.{access}
use Rattle.aintc_registers.specs.Registers.{answered, refused, read_at}
use Rattle.aintc_registers.specs.Model.{barred, access_number, start, read_number, write_number, line_number, read, write, line, step, outputs}
use Rattle.aintc.specs.Promises.{SomeChosen, SameReply, Promises}
use Rattle.aintc.specs.Tables.{ReadTable, WriteTable}
use Rattle.aintc.proofs.NumberLaws.{access-read, access-write}
use Rattle.aintc.proofs.RegisterLaws.{itr-shown, irq-shown, fiq-shown, the-map, reads_of, writes_of}
use Rattle.aintc.proofs.SideLaws.{quiet, step-sound, step_shaped, read_same, held, other-side, soft-reset, chosen-first, chosen-active}

-- a step that is carried out if n is 0, and else refused by n
module _ (s : Aintc) (n : ℕ) (a : Answer) (done : a.refusal ≡ carried_out) where
  number-given : (pick (eqb n carried_out) a (refused s n)).refusal ≡ n
  number-given = pick_cases (λ (r : Answer). r.refusal ≡ n) (eqb n carried_out) (λ e. done ∙ sym (eqb-true n carried_out e)) (λ _. refl)

  refused-same : (pick (eqb n carried_out) a (refused s n)).refusal ≢ carried_out
      → pick (eqb n carried_out) a (refused s n) ≡ refused s (pick (eqb n carried_out) a (refused s n)).refusal
  refused-same = pick_cases (λ (r : Answer). r.refusal ≢ carried_out → r ≡ refused s r.refusal) (eqb n carried_out) (λ _ d. absurd (d done)) (λ _ _. refl)

step-refused : (s : Aintc) (p : ℕ) (x : Step) → (step s p x).refusal ≢ carried_out → step s p x ≡ refused s (step s p x).refusal
unfolding read write line
step-refused s p (Read o) = refused-same s (read_number s p o) _ refl
step-refused s p (Write o v) = refused-same s (write_number s p o) _ refl
step-refused s p (Line k l) = refused-same s (line_number s k l) _ refl

read_number_lem : (s : Aintc) (p o : ℕ) → (read s p o).refusal ≡ read_number s p o
unfolding read
read_number_lem s p o = number-given s (read_number s p o) (answered s (read_at s o)) refl

write_number_lem : (s : Aintc) (p o v : ℕ) → (write s p o v).refusal ≡ write_number s p o
unfolding write
write_number_lem s p o v = number-given s (write_number s p o) (answered (settle (written_at s o v)) 0) refl

reads-table : (s : Aintc) (p o : ℕ) → ReadTable (sound s) s.guarded p o (access o) (read s p o).refusal
unfolding read_number
reads-table s p o = rw (read_number_lem s p o) (access-read (sound s) s.guarded p o)

writes-table : (s : Aintc) (p o v : ℕ) → WriteTable (sound s) s.guarded p o (access o) (write s p o v).refusal
unfolding write_number
writes-table s p o v = rw (write_number_lem s p o v) (access-write (sound s) s.guarded p o)

lines-table : (s : Aintc) (k l : ℕ) → LineTable (sound s) 128 k l (line s k l).refusal
unfolding line line_number
lines-table s k l = rw (number-given s (line_number s k l) (answered (settle (moved s k (eqb l 1))) 0) refl) (line-table (sound s) 128 k l)

write-value : (s : Aintc) (p o v : ℕ) → (write s p o v).value ≡ 0
unfolding write
write-value s p o v = pick_cases (λ (a : Answer). a.value ≡ 0) (eqb (write_number s p o) carried_out) (λ _. refl) (λ _. refl)

line-value : (s : Aintc) (k l : ℕ) → (line s k l).value ≡ 0
unfolding line
line-value s k l = pick_cases (λ (a : Answer). a.value ≡ 0) (eqb (line_number s k l) carried_out) (λ _. refl) (λ _. refl)

-- what is carried out at privilege 0 is carried out at 1
raised_number : (so b : Bool) (rest : ℕ) → access_number so 0 b rest ≡ 0 → access_number so 1 false rest ≡ 0
unfolding access_number pick
raised_number false b rest e = absurd (omega arith)
raised_number true true rest e = absurd (omega arith)
raised_number true false rest e = e

privileged_open : (g : Bool) (o : ℕ) → barred g 1 o ≡ false
unfolding barred
privileged_open g o = refl

read_done : (s : Aintc) (p o : ℕ) → read_number s p o ≡ 0 → read s p o ≡ answered s (read_at s o)
unfolding read
read_done s p o z = sym (pick_true _ (eq-eqb (read_number s p o) 0 z))

write_done : (s : Aintc) (p o v : ℕ) → write_number s p o ≡ 0 → write s p o v ≡ answered (settle (written_at s o v)) 0
unfolding write
write_done s p o v z = sym (pick_true _ (eq-eqb (write_number s p o) 0 z))

read-raised : (s : Aintc) (o : ℕ) → read_number s 0 o ≡ 0 → read_number s 1 o ≡ 0
unfolding read_number
read-raised s o z = rw (privileged_open s.guarded o) (raised_number (sound s) (barred s.guarded 0 o) (read_refusal true o (access o)) z)

write-raised : (s : Aintc) (o : ℕ) → write_number s 0 o ≡ 0 → write_number s 1 o ≡ 0
unfolding write_number
write-raised s o z = rw (privileged_open s.guarded o) (raised_number (sound s) (barred s.guarded 0 o) (write_refusal true o (access o) carried_out) z)

privilege-idle : (s : Aintc) (x : Step) → (step s 0 x).refusal ≡ 0 → step s 0 x ≡ step s 1 x
privilege-idle s (Read o) e =
    let z : read_number s 0 o ≡ 0 = sym (read_number_lem s 0 o) ∙ e in
    read_done s 0 o z ∙ sym (read_done s 1 o (read-raised s o z))
privilege-idle s (Write o v) e =
    let z : write_number s 0 o ≡ 0 = sym (write_number_lem s 0 o v) ∙ e in
    write_done s 0 o v z ∙ sym (write_done s 1 o v (write-raised s o z))
privilege-idle s (Line k l) e = refl

-- two sound records that differ in nothing that a read shows answer it alike
read-value : (s : Aintc) (p o : ℕ) → (read s p o).value ≡ pick (eqb (read_number s p o) carried_out) (read_at s o) 0
unfolding read
read-value s p o = pick-ap (λ (a : Answer). a.value) (eqb (read_number s p o) carried_out) (answered s (read_at s o)) (refused s (read_number s p o))

number-alike : (s t : Aintc) (p o : ℕ) → sound s ≡ true → sound t ≡ true → t.guarded ≡ s.guarded → read_number t p o ≡ read_number s p o
unfolding read_number
number-alike s t p o ok also g = ap₂ (λ (so g : Bool). access_number so p (barred g p o) (read_refusal true o (access o))) (also ∙ sym ok) g

read_alike : (s t : Aintc) (p o : ℕ) → sound s ≡ true → sound t ≡ true → t.guarded ≡ s.guarded → read_at t o ≡ read_at s o → SameReply (read t p o) (read s p o)
read_alike s t p o ok also g e =
    let n = number-alike s t p o ok also g in
    (read_number_lem t p o ∙ n ∙ sym (read_number_lem s p o), read-value t p o ∙ ap₂ (λ (m v : ℕ). pick (eqb m carried_out) v 0) n e ∙ sym (read-value s p o))

pending-same : (s : Aintc) (t : ℕ) (f : Bool) (n : ℕ) → pending_word (with_threshold s t) f n ≡ pending_word s f n
unfolding pending_word pending unmasked raised routed
pending-same s t f n = refl

pending_apart : (s : Aintc) (t p n : ℕ) → sound s ≡ true → sound (with_threshold s t) ≡ true → n < 4
    → SameReply (read (with_threshold s t) p (0x98 + 0x20 * n)) (read s p (0x98 + 0x20 * n))
    × SameReply (read (with_threshold s t) p (0x9C + 0x20 * n)) (read s p (0x9C + 0x20 * n))
pending_apart s t p n ok also l = (
  read_alike s (with_threshold s t) p (0x98 + 0x20 * n) ok also refl (irq-shown (with_threshold s t) n l ∙ pending-same s t false n ∙ sym (irq-shown s n l)),
  read_alike s (with_threshold s t) p (0x9C + 0x20 * n) ok also refl (fiq-shown (with_threshold s t) n l ∙ pending-same s t true n ∙ sym (fiq-shown s n l)),
)

itr_apart : (s : Aintc) (ws : List ℕ) (p n : ℕ) → sound s ≡ true → sound (with_soft s ws) ≡ true → n < 4
    → SameReply (read (with_soft s ws) p (0x80 + 0x20 * n)) (read s p (0x80 + 0x20 * n))
itr_apart s ws p n ok also l =
    read_alike s (with_soft s ws) p (0x80 + 0x20 * n) ok also refl (itr-shown (with_soft s ws) n l ∙ sym (itr-shown s n l))

line_moves : (s : Aintc) (k l : ℕ) → sound s ≡ true → k < 128 → l ≤ 1 → line s k l ≡ answered (settle (with_lines s (with_bit_at s.lines k (eqb l 1)))) 0
unfolding line line_number moved
line_moves s k l ok m n = sym (pick_true _ (eq-eqb (line_number s k l) 0 ((line-table (sound s) 128 k l).none.1 (ok, (m, n)))))

line_bits : (s : Aintc) (k l : ℕ) → Shaped s → sound s ≡ true → k < 128 → l ≤ 1 → (i : ℕ)
    → bit_at (line s k l).aintc.lines i ≡ pick (eqb i k) (eqb l 1) (bit_at s.lines i)
unfolding settle
line_bits s k l h ok m n i = ap (λ (a : Answer). bit_at a.aintc.lines i) (line_moves s k l ok m n) ∙ bit_at-with_bit_at s.lines k (eqb l 1) i (omega (arith, h.0))

-- what is chosen is an input, and where one is, it is active
chosen-some : (c : Chosen) → Bounds c → c.active ≡ true → SomeChosen c
chosen-some c b e = (c.number, c.priority, omega (arith, b.number e), ap (λ (t : Bool). record { active = t; number = c.number; priority = c.priority }) e)

some-chosen : (c : Chosen) → SomeChosen c → c.active ≡ true
some-chosen c (_, _, _, e) = ap (λ (d : Chosen). d.active) e

irq-active : (s : Aintc) → sound s ≡ true → ((outputs s).irq ≡ true) ↔ SomeChosen s.irq
unfolding outputs pick
irq-active s ok = rw ok (chosen-some s.irq (((choice-promises.kept).sound_is s).0 ok).irq, some-chosen s.irq)

fiq-active : (s : Aintc) → sound s ≡ true → ((outputs s).fiq ≡ true) ↔ SomeChosen s.fiq
unfolding outputs pick
fiq-active s ok = rw ok (chosen-some s.fiq (((choice-promises.kept).sound_is s).0 ok).fiq, some-chosen s.fiq)

outputs-none : (s : Aintc) → sound s ≡ true → s.irq.active ≡ false → (outputs s).number ≡ 0
unfolding outputs pick
outputs-none s ok e = rw ok ((((choice-promises.kept).sound_is s).0 ok).irq.none e).0

pub kept : Promises
unfolding start outputs pick
kept =
    record {
      configuration = λ nth value. refl;
      start_taken = refl;
      start_is = ((record-promises.kept).reset_fresh _, λ n. unfold reset in (zeros_get_d 4 n));
      start_sound = ((choice-promises.kept).reset_sound _, (record-promises.kept).reset_shaped _ refl);
      step_is = λ s p o v k l. (refl, refl, refl);
      answered_is = λ s v. refl;
      refused_is = λ s n. refl;
      step_sound = step-sound;
      step_shaped = step_shaped;
      refused_same = step-refused;
      read_same = read_same;
      write_value = write-value;
      line_value = line-value;
      read_numbers = reads-table;
      write_numbers = writes-table;
      line_numbers = lines-table;
      map = the-map;
      reads = reads_of;
      writes = λ s v ok. writes_of s ok v;
      privilege_idle = privilege-idle;
      pending_apart = pending_apart;
      itr_apart = itr_apart;
      soft_reset = soft-reset;
      line_moves = line_moves;
      line_bits = line_bits;
      held = held;
      other_side = other-side;
      chosen_active = chosen-active;
      chosen_first = chosen-first;
      inactive_means = quiet;
      irq_active = irq-active;
      fiq_active = fiq-active;
      outputs_sound = λ s ok. rw ok;
      outputs_none = outputs-none;
      outputs_unsound = λ s e. rw e;
    }
