-- The map, and what each privileged read and write does to a sound record, register by register.
use Prim.Native.Nat.{ℕ, zero, suc, ◌+◌, ◌*◌, ◌/◌, ◌%◌, ◌<◌, ◌≤◌}
use mathlib.Core.Path.{◌≡◌, refl, sym, ap, ◌∙◌}
use mathlib.Core.Bool.{Bool, true, false, not, ◌&&◌, ◌||◌}
use mathlib.Core.List.{List}
use mathlib.Core.Logic.{◌≢◌, inl, inr}
use native.Mathlib.Omega.{arith}
use lib.ListN.{get_or, set}
use borrow.Author.Tests.{eq-eqb, ne_eqb, lt-ltb, le-ltb}
use Rattle.words.specs.Choice.{pick}
use Rattle.words.specs.Word.{bit, either, without}
use Rattle.words.proofs.ChoiceLaws.{pick_true, pick-false}
use Rattle.words.proofs.WordLaws.{word_of_lt, bit-either, bit-without, either_lt, without_lt}
use Rattle.steps.specs.declared.Access.TheVariants.{NoRegister, ReadOnly, WriteOnly, ReadWrite}
use Rattle.steps.specs.Tables.{Readable, Writable}
use Rattle.aintc_record.specs.declared.Aintc.{Aintc}
use Rattle.aintc_record.specs.Record.{with_soft, with_masks, with_routes, reset}
use Rattle.aintc_record.specs.Route.{route_value, route_byte, route_at}
use Rattle.aintc_registers.specs.Inputs.{pending, pending_word}
use Rattle.aintc_registers.specs.Settle.{settle, sound}
use Rattle.aintc_registers.proofs.Promises as choice-promises
use Rattle.aintc_registers.specs.Effects.{released, agreed, configured, single_written, bank_written, written_at}
use Rattle.aintc_registers.specs.Map.{revision, sysconfig, sysstatus, sir_irq, sir_fiq, control, protection, idle, irq_priority, fiq_priority, threshold, itr, mir, mir_clear, mir_set, isr_set, isr_clear, pending_irq, pending_fiq, ilr, past, row_of, row_access, access, input_of}
use Rattle.aintc_registers.specs.declared.Answer.{Answer}
use Rattle.aintc_registers.specs.Registers.{answered, shown, idle_bits, single_read, bank_read, read_at}
use Rattle.aintc_registers.specs.Model.{read_number, write_number, read, write}
use Rattle.aintc.specs.Tables.{MapTable, Shows, Reads, Sets, Writes}
use Rattle.aintc.proofs.NumberLaws.{access-read, access-write}

-- one of four
four : (P : ℕ → Type 0) → P 0 → P 1 → P 2 → P 3 → (n : ℕ) → n < 4 → P n
four P a b c d zero l = a
four P a b c d (suc zero) l = b
four P a b c d (suc (suc zero)) l = c
four P a b c d (suc (suc (suc zero))) l = d
four P a b c d (suc (suc (suc (suc n)))) l = absurd (omega arith)

-- ---- the map

ilr-row : (k : ℕ) → k < 128 → row_of (0x100 + 4 * k) ≡ ilr
unfolding row_of
ilr-row k l =
    sym (pick_true _ (lt-ltb (0x100 + 4 * k) past (omega arith)) ∙ pick-false _ (le-ltb (0x100 + 4 * k) ilr (omega arith)) ∙ pick-false _ (le-ltb (0x100 + 4 * k) itr (omega arith)))

ilr-access : (k : ℕ) → k < 128 → access (0x100 + 4 * k) ≡ ReadWrite
unfolding access row_access pick
ilr-access k l = ap row_access (ilr-row k l)

after-access : (o : ℕ) → 0x300 ≤ o → access o ≡ NoRegister
unfolding access row_access row_of
after-access o l =
    ap row_access (sym (pick-false _ (le-ltb o past l) ∙ pick-false _ (le-ltb o ilr (omega arith)) ∙ pick-false _ (le-ltb o itr (omega arith)))) ∙ (unfold pick in refl)

-- below the banks an offset is its own row, and that of no bank and no route
low-row : (o : ℕ) → o < 0x80 → access o ≡ row_access o
unfolding access row_of
low-row o l = ap row_access (sym (pick_true _ (lt-ltb o itr l)))

other-access : (o : ℕ) → o < 0x80 → o ≢ 0x00 → o ≢ 0x10 → o ≢ 0x14 → o ≢ 0x40 → o ≢ 0x44 → o ≢ 0x48 → o ≢ 0x4C → o ≢ 0x50 → o ≢ 0x60 → o ≢ 0x64 → o ≢ 0x68
    → access o ≡ NoRegister
unfolding row_access
other-access o l a b c d e f g h i j k =
    low-row o l
    ∙ sym
    (pick-false _ (ne_eqb o ilr (λ z. omega arith)) ∙ pick-false _ (ne_eqb o pending_fiq (λ z. omega arith)) ∙ pick-false _ (ne_eqb o pending_irq (λ z. omega arith))
    ∙ pick-false _ (ne_eqb o isr_clear (λ z. omega arith)) ∙ pick-false _ (ne_eqb o isr_set (λ z. omega arith)) ∙ pick-false _ (ne_eqb o mir_set (λ z. omega arith))
    ∙ pick-false _ (ne_eqb o mir_clear (λ z. omega arith)) ∙ pick-false _ (ne_eqb o mir (λ z. omega arith)) ∙ pick-false _ (ne_eqb o itr (λ z. omega arith))
    ∙ pick-false _ (ne_eqb o threshold k) ∙ pick-false _ (ne_eqb o fiq_priority j) ∙ pick-false _ (ne_eqb o irq_priority i) ∙ pick-false _ (ne_eqb o idle h)
    ∙ pick-false _ (ne_eqb o protection g) ∙ pick-false _ (ne_eqb o control f) ∙ pick-false _ (ne_eqb o sir_fiq e) ∙ pick-false _ (ne_eqb o sir_irq d)
    ∙ pick-false _ (ne_eqb o sysstatus c) ∙ pick-false _ (ne_eqb o sysconfig b) ∙ pick-false _ (ne_eqb o revision a))

pub the-map : MapTable
unfolding access row_access row_of pick
the-map =
    record {
      revision = refl;
      sysconfig = refl;
      sysstatus = refl;
      sir_irq = refl;
      sir_fiq = refl;
      control = refl;
      protection = refl;
      idle = refl;
      irq_priority = refl;
      fiq_priority = refl;
      threshold = refl;
      itr = four (λ n. access (0x80 + 0x20 * n) ≡ ReadOnly) refl refl refl refl;
      mir = four (λ n. access (0x84 + 0x20 * n) ≡ ReadWrite) refl refl refl refl;
      mir_clear = four (λ n. access (0x88 + 0x20 * n) ≡ WriteOnly) refl refl refl refl;
      mir_set = four (λ n. access (0x8C + 0x20 * n) ≡ WriteOnly) refl refl refl refl;
      isr_set = four (λ n. access (0x90 + 0x20 * n) ≡ ReadWrite) refl refl refl refl;
      isr_clear = four (λ n. access (0x94 + 0x20 * n) ≡ WriteOnly) refl refl refl refl;
      pending_irq = four (λ n. access (0x98 + 0x20 * n) ≡ ReadOnly) refl refl refl refl;
      pending_fiq = four (λ n. access (0x9C + 0x20 * n) ≡ ReadOnly) refl refl refl refl;
      ilr = ilr-access;
      no_other = other-access;
      nothing_after = after-access;
    }

-- ---- the registers of bank n

module _ (s : Aintc) where
  pub itr-shown : (n : ℕ) → n < 4 → read_at s (0x80 + 0x20 * n) ≡ get_or s.lines n 0
  unfolding read_at bank_read row_of pick
  itr-shown = four (λ n. read_at s (0x80 + 0x20 * n) ≡ get_or s.lines n 0) refl refl refl refl

  mir-shown : (n : ℕ) → n < 4 → read_at s (0x84 + 0x20 * n) ≡ get_or s.masks n 0
  unfolding read_at bank_read row_of pick
  mir-shown = four (λ n. read_at s (0x84 + 0x20 * n) ≡ get_or s.masks n 0) refl refl refl refl

  soft-shown : (n : ℕ) → n < 4 → read_at s (0x90 + 0x20 * n) ≡ get_or s.soft n 0
  unfolding read_at bank_read row_of pick
  soft-shown = four (λ n. read_at s (0x90 + 0x20 * n) ≡ get_or s.soft n 0) refl refl refl refl

  pub irq-shown : (n : ℕ) → n < 4 → read_at s (0x98 + 0x20 * n) ≡ pending_word s false n
  unfolding read_at bank_read row_of pick
  irq-shown = four (λ n. read_at s (0x98 + 0x20 * n) ≡ pending_word s false n) refl refl refl refl

  pub fiq-shown : (n : ℕ) → n < 4 → read_at s (0x9C + 0x20 * n) ≡ pending_word s true n
  unfolding read_at bank_read row_of pick
  fiq-shown = four (λ n. read_at s (0x9C + 0x20 * n) ≡ pending_word s true n) refl refl refl refl

  module _ (v : ℕ) where
    mir-put : (n : ℕ) → n < 4 → written_at s (0x84 + 0x20 * n) v ≡ with_masks s (set s.masks n v)
    unfolding written_at bank_written row_of pick
    mir-put = four (λ n. written_at s (0x84 + 0x20 * n) v ≡ with_masks s (set s.masks n v)) refl refl refl refl

    mir-cleared : (n : ℕ) → n < 4 → written_at s (0x88 + 0x20 * n) v ≡ with_masks s (set s.masks n (without (get_or s.masks n 0) v))
    unfolding written_at bank_written row_of pick
    mir-cleared = four (λ n. written_at s (0x88 + 0x20 * n) v ≡ with_masks s (set s.masks n (without (get_or s.masks n 0) v))) refl refl refl refl

    mir-joined : (n : ℕ) → n < 4 → written_at s (0x8C + 0x20 * n) v ≡ with_masks s (set s.masks n (either (get_or s.masks n 0) v))
    unfolding written_at bank_written row_of pick
    mir-joined = four (λ n. written_at s (0x8C + 0x20 * n) v ≡ with_masks s (set s.masks n (either (get_or s.masks n 0) v))) refl refl refl refl

    soft-joined : (n : ℕ) → n < 4 → written_at s (0x90 + 0x20 * n) v ≡ with_soft s (set s.soft n (either (get_or s.soft n 0) v))
    unfolding written_at bank_written row_of pick
    soft-joined = four (λ n. written_at s (0x90 + 0x20 * n) v ≡ with_soft s (set s.soft n (either (get_or s.soft n 0) v))) refl refl refl refl

    soft-cleared : (n : ℕ) → n < 4 → written_at s (0x94 + 0x20 * n) v ≡ with_soft s (set s.soft n (without (get_or s.soft n 0) v))
    unfolding written_at bank_written row_of pick
    soft-cleared = four (λ n. written_at s (0x94 + 0x20 * n) v ≡ with_soft s (set s.soft n (without (get_or s.soft n 0) v))) refl refl refl refl

-- ---- reads and writes of a sound record

module _ (s : Aintc) (ok : sound s ≡ true) where
  read_at_lem : (o : ℕ) → o % 4 ≡ 0 → Readable (access o) → read s 1 o ≡ answered s (read_at s o)
  unfolding read read_number
  read_at_lem o e r = sym (pick_true _ (eq-eqb (read_number s 1 o) 0 ((access-read (sound s) s.guarded 1 o).none.1 ((ok, omega arith, e), r, inl refl))))

  write_at : (o v : ℕ) → o % 4 ≡ 0 → Writable (access o) → write s 1 o v ≡ answered (settle (written_at s o v)) 0
  unfolding write write_number
  write_at o v e w = sym (pick_true _ (eq-eqb (write_number s 1 o) 0 ((access-write (sound s) s.guarded 1 o).none.1 ((ok, omega arith, e), w, inl refl))))

  ilr-read : (k : ℕ) → k < 128 → read s 1 (0x100 + 4 * k) ≡ answered s (get_or s.routes k 0 / 2 % 128 * 4 + get_or s.routes k 0 % 2)
  unfolding read_at
  ilr-read k l =
      let e : input_of (0x100 + 4 * k) ≡ k = omega arith in
      read_at_lem (0x100 + 4 * k) (omega arith) (inr (ilr-access k l))
      ∙ ap (answered s)
      (sym (pick-false _ (le-ltb (0x100 + 4 * k) ilr (omega arith)) ∙ pick-false _ (le-ltb (0x100 + 4 * k) itr (omega arith)))
      ∙ ap (λ (j : ℕ). route_value (route_at s j)) e)

  -- a read of what is pending shows it bit by bit
  shows : (a : Answer) (f : Bool) (n : ℕ) → a ≡ answered s (pending_word s f n) → Shows s a (λ i. pending s f (32 * n + i))
  unfolding pending_word
  shows a f n e =
      let w : a.value ≡ pending_word s f n = ap (λ (b : Answer). b.value) e in
      (e ∙ ap (answered s) (sym w), rw w (word_of_lt 32 (λ i. pending s f (32 * n + i))), λ i l. ap (λ (x : ℕ). bit x i) w ∙ (choice-promises.kept).pending_bit s f n i l)

  pub reads_of : Reads s
  unfolding read_at single_read shown idle_bits access row_access row_of pick
  reads_of =
      record {
        revision = read_at_lem 0x00 refl (inr refl);
        sysconfig = read_at_lem 0x10 refl (inr refl);
        sysstatus = read_at_lem 0x14 refl (inl refl);
        sir_irq = read_at_lem 0x40 refl (inl refl);
        sir_fiq = read_at_lem 0x44 refl (inl refl);
        protection = read_at_lem 0x4C refl (inr refl);
        idle = read_at_lem 0x50 refl (inr refl);
        irq_priority = read_at_lem 0x60 refl (inl refl);
        fiq_priority = read_at_lem 0x64 refl (inl refl);
        threshold = read_at_lem 0x68 refl (inr refl);
        itr = λ n l. read_at_lem (0x80 + 0x20 * n) (omega arith) (inl (the-map.itr n l)) ∙ ap (answered s) (itr-shown s n l);
        mir = λ n l. read_at_lem (0x84 + 0x20 * n) (omega arith) (inr (the-map.mir n l)) ∙ ap (answered s) (mir-shown s n l);
        isr_set = λ n l. read_at_lem (0x90 + 0x20 * n) (omega arith) (inr (the-map.isr_set n l)) ∙ ap (answered s) (soft-shown s n l);
        pending_irq = λ n l. shows _ false n (read_at_lem (0x98 + 0x20 * n) (omega arith) (inl (the-map.pending_irq n l)) ∙ ap (answered s) (irq-shown s n l));
        pending_fiq = λ n l. shows _ true n (read_at_lem (0x9C + 0x20 * n) (omega arith) (inl (the-map.pending_fiq n l)) ∙ ap (answered s) (fiq-shown s n l));
        ilr = ilr-read;
      }

  ilr-write : (k v : ℕ) → k < 128 → write s 1 (0x100 + 4 * k) v ≡ answered (settle (with_routes s (set s.routes k (v / 4 % 128 * 2 + v % 2)))) 0
  unfolding written_at
  ilr-write k v l =
      let e : input_of (0x100 + 4 * k) ≡ k = omega arith in
      write_at (0x100 + 4 * k) v (omega arith) (inr (ilr-access k l))
      ∙ ap (λ (t : Aintc). answered (settle t) 0)
      (sym (pick-false _ (le-ltb (0x100 + 4 * k) ilr (omega arith)) ∙ pick-false _ (le-ltb (0x100 + 4 * k) itr (omega arith)))
      ∙ ap (λ (j : ℕ). with_routes s (set s.routes j (route_byte v))) e)

  module _ (v : ℕ) where
    bank-write : (o : ℕ) {t : Aintc} → o % 4 ≡ 0 → Writable (access o) → written_at s o v ≡ t → write s 1 o v ≡ answered (settle t) 0
    bank-write o e w p = write_at o v e w ∙ ap (λ (x : Aintc). answered (settle x) 0) p

    -- a bank's word with the bits of v set, or cleared
    joins : (o : ℕ) (put : List ℕ → Aintc) (ws : List ℕ) (n : ℕ) → write s 1 o v ≡ answered (settle (put (set ws n (either (get_or ws n 0) v)))) 0
        → Sets (write s 1 o v) put ws n (λ i. bit (get_or ws n 0) i || bit v i)
    joins o put ws n e = record { word = either (get_or ws n 0) v; done = e; fits = either_lt (get_or ws n 0) v; bits = bit-either (get_or ws n 0) v }

    drops : (o : ℕ) (put : List ℕ → Aintc) (ws : List ℕ) (n : ℕ) → write s 1 o v ≡ answered (settle (put (set ws n (without (get_or ws n 0) v)))) 0
        → Sets (write s 1 o v) put ws n (λ i. bit (get_or ws n 0) i && not (bit v i))
    drops o put ws n e = record { word = without (get_or ws n 0) v; done = e; fits = without_lt (get_or ws n 0) v; bits = bit-without (get_or ws n 0) v }

    soft-reset : bit v 1 ≡ true → write s 1 0x10 v ≡ answered (reset s.lines) 0
    unfolding written_at single_written configured access row_access row_of pick
    soft-reset e =
        write_at 0x10 v refl (inr refl) ∙ rw e (ap (λ (t : Aintc). answered t 0) ((choice-promises.kept).settled_same (reset s.lines) ((choice-promises.kept).reset_sound s.lines)))

    pub writes_of : Writes s v
    unfolding written_at single_written configured agreed released access row_access row_of pick
    writes_of =
        record {
          revision = write_at 0x00 v refl (inr refl);
          soft_reset = soft-reset;
          sysconfig = λ e. write_at 0x10 v refl (inr refl) ∙ rw e;
          control = write_at 0x48 v refl (inl refl);
          protection = write_at 0x4C v refl (inr refl);
          idle = write_at 0x50 v refl (inr refl);
          threshold = write_at 0x68 v refl (inr refl);
          mir = λ n l. bank-write (0x84 + 0x20 * n) (omega arith) (inr (the-map.mir n l)) (mir-put s v n l);
          mir_clear = λ n l. drops (0x88 + 0x20 * n) (with_masks s) s.masks n (bank-write (0x88 + 0x20 * n) (omega arith) (inl (the-map.mir_clear n l)) (mir-cleared s v n l));
          mir_set = λ n l. joins (0x8C + 0x20 * n) (with_masks s) s.masks n (bank-write (0x8C + 0x20 * n) (omega arith) (inl (the-map.mir_set n l)) (mir-joined s v n l));
          isr_set = λ n l. joins (0x90 + 0x20 * n) (with_soft s) s.soft n (bank-write (0x90 + 0x20 * n) (omega arith) (inr (the-map.isr_set n l)) (soft-joined s v n l));
          isr_clear = λ n l. drops (0x94 + 0x20 * n) (with_soft s) s.soft n (bank-write (0x94 + 0x20 * n) (omega arith) (inl (the-map.isr_clear n l)) (soft-cleared s v n l));
          ilr = λ k l. ilr-write k v l;
        }
