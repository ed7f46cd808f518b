-- What is promised of the controller: how it starts, when it refuses, what each step does, what is held, and that it stays sound.
use Rattle.std.specs.Prelude.{ℕ, ◌+◌, ◌*◌, ◌<◌, ◌≤◌, ◌≡◌, Bool, true, false, List, ◌↔◌, ◌≢◌, ◌⊎◌, eqb, get_or}
use Rattle.words.specs.Array.{bit_at, with_bit_at}
use Rattle.words.specs.Choice.{pick}
use Rattle.words.specs.Counting.{one}
use Rattle.words.specs.Word.{bit}
use Rattle.steps.specs.declared.Step.{Step}
use Rattle.steps.specs.declared.Step.TheVariants.{Read, Write, Line}
use Rattle.steps.specs.Tables.{LineTable}
use Rattle.aintc_record.specs.declared.Aintc.{Aintc}
use Rattle.aintc_record.specs.declared.Chosen.{Chosen}
use Rattle.aintc_record.specs.Promises.{Shaped, Fresh}
use Rattle.aintc_record.specs.Record.{with_lines, with_soft, with_threshold, side, chosen_at}
use Rattle.aintc_record.specs.Route.{priority}
use Rattle.aintc_registers.specs.Promises.{SomeEligible, NoneEligible, First}
use Rattle.aintc_registers.specs.Settle.{settle, sound}
use Rattle.aintc_registers.specs.declared.Answer.{Answer}
use Rattle.aintc_registers.specs.Map.{access}
use Rattle.aintc_registers.specs.Registers.{answered, refused}
use Rattle.aintc_registers.specs.Model.{within, start, read, write, line, step, outputs}
use Rattle.aintc.specs.Tables.{ReadTable, WriteTable, MapTable, Reads, Writes}

-- the step ends what an output holds, FIQ where f, else IRQ: a write that is carried out, of its agreement bit, which is bit 1 of CONTROL for
-- FIQ and bit 0 for IRQ, or of the soft reset, bit 1 of SYSCONFIG
abbrev pub Ends : Aintc → Bool → ℕ → Step → Type 0
Ends s f p (Read o) = ⊥
Ends s f p (Write o v) = ((write s p o v).refusal ≡ 0) × (((o ≡ 0x48) × (bit v (one f) ≡ true)) ⊎ ((o ≡ 0x10) × (bit v 1 ≡ true)))
Ends s f p (Line k l) = ⊥

-- the output is free to take an input by the step: it has none, or the step ends what it holds
abbrev pub Free : Aintc → Bool → ℕ → Step → Type 0
Free s f p x = ((side s f).active ≡ false) ⊎ Ends s f p x

-- an input is chosen, at some priority
abbrev pub SomeChosen : Chosen → Type 0
SomeChosen c = (k : ℕ) × (p : ℕ) × (k < 128) × (c ≡ chosen_at k p)

-- two steps answer the same number and the same value
abbrev pub SameReply : Answer → Answer → Type 0
SameReply a b = (a.refusal ≡ b.refusal) × (a.value ≡ b.value)

pub record Promises : Type 0 where
  -- no configuration number; no start is refused; its record is what a reset leaves, field by field, with the lines low, and it is sound
  -- (02, 2/12; 000, 4.5)
  pub configuration : (nth value : ℕ) → within nth value ≡ false
  pub start_taken : start.refusal ≡ 0
  pub start_is : Fresh start.aintc × ((n : ℕ) → get_or start.aintc.lines n 0 ≡ 0)
  pub start_sound : (sound start.aintc ≡ true) × Shaped start.aintc
  -- a step of a recorded trace is a read or a write at its privilege, or a line step, for which no privilege counts (02, 2/12)
  pub step_is : (s : Aintc) (p o v k l : ℕ)
      → (step s p (Read o) ≡ read s p o) × (step s p (Write o v) ≡ write s p o v) × (step s p (Line k l) ≡ line s k l)
  -- what is carried out answers 0, a value and the record after it; what is refused its number, the value 0 and the record as it was (01, Numbers)
  pub answered_is : (s : Aintc) (v : ℕ) → answered s v ≡ record { refusal = 0; value = v; aintc = s }
  pub refused_is : (s : Aintc) (n : ℕ) → refused s n ≡ record { refusal = n; value = 0; aintc = s }
  -- every step keeps a sound record sound, and every array at its length (02, 2/12)
  pub step_sound : (s : Aintc) (p : ℕ) (x : Step) → sound s ≡ true → sound (step s p x).aintc ≡ true
  pub step_shaped : (s : Aintc) (p : ℕ) (x : Step) → Shaped s → Shaped (step s p x).aintc
  -- a refused step answers its number, the value 0 and the same record (01, Numbers)
  pub refused_same : (s : Aintc) (p : ℕ) (x : Step) → (step s p x).refusal ≢ 0 → step s p x ≡ refused s (step s p x).refusal
  -- a read changes nothing (000, 4.5)
  pub read_same : (s : Aintc) (p o : ℕ) → (read s p o).aintc ≡ s
  -- writes and line steps answer the value 0 (01, Numbers)
  pub write_value : (s : Aintc) (p o v : ℕ) → (write s p o v).value ≡ 0
  pub line_value : (s : Aintc) (k l : ℕ) → (line s k l).value ≡ 0
  -- each number is given exactly when the table says, 13 and both 6s among them (01, Numbers; 02, 2/12)
  pub read_numbers : (s : Aintc) (p o : ℕ) → ReadTable (sound s) s.guarded p o (access o) (read s p o).refusal
  pub write_numbers : (s : Aintc) (p o v : ℕ) → WriteTable (sound s) s.guarded p o (access o) (write s p o v).refusal
  pub line_numbers : (s : Aintc) (k l : ℕ) → LineTable (sound s) 128 k l (line s k l).refusal
  -- the map, the reads and the writes, register by register (000, table 4-3 and 4.5)
  pub map : MapTable
  pub reads : (s : Aintc) → sound s ≡ true → Reads s
  pub writes : (s : Aintc) (v : ℕ) → sound s ≡ true → Writes s v
  -- what is carried out at privilege 0 is the same as at 1 (000, 4.3.2)
  pub privilege_idle : (s : Aintc) (x : Step) → (step s 0 x).refusal ≡ 0 → step s 0 x ≡ step s 1 x
  -- PENDING does not show the threshold: with another one both answer the same (000, 4.3.1.2.1)
  pub pending_apart : (s : Aintc) (t p n : ℕ) → sound s ≡ true → sound (with_threshold s t) ≡ true → n < 4
      → SameReply (read (with_threshold s t) p (0x98 + 0x20 * n)) (read s p (0x98 + 0x20 * n))
      × SameReply (read (with_threshold s t) p (0x9C + 0x20 * n)) (read s p (0x9C + 0x20 * n))
  -- ITR does not show the soft interrupts: with others it answers the same (000, 4.5.12)
  pub itr_apart : (s : Aintc) (ws : List ℕ) (p n : ℕ) → sound s ≡ true → sound (with_soft s ws) ≡ true → n < 4
      → SameReply (read (with_soft s ws) p (0x80 + 0x20 * n)) (read s p (0x80 + 0x20 * n))
  -- a soft reset leaves what a reset leaves, none chosen, and the lines as they are (000, table 4-5)
  pub soft_reset : (s : Aintc) (p v : ℕ) → (write s p 0x10 v).refusal ≡ 0 → bit v 1 ≡ true
      → Fresh (write s p 0x10 v).aintc × ((write s p 0x10 v).aintc.lines ≡ s.lines)
  -- a line step puts its line to the level, and no other; then the outputs take what they may (000, 4.3.1.1)
  pub line_moves : (s : Aintc) (k l : ℕ) → sound s ≡ true → k < 128 → l ≤ 1 → line s k l ≡ answered (settle (with_lines s (with_bit_at s.lines k (eqb l 1)))) 0
  pub line_bits : (s : Aintc) (k l : ℕ) → Shaped s → sound s ≡ true → k < 128 → l ≤ 1 → (i : ℕ)
      → bit_at (line s k l).aintc.lines i ≡ pick (eqb i k) (eqb l 1) (bit_at s.lines i)
  -- a chosen one is held, number and priority, by every step that does not end it: by better ones, by its line, its mask, its route, its
  -- priority and the threshold, and by any step that is refused (02, 2/12)
  pub held : (s : Aintc) (f : Bool) (p : ℕ) (x : Step) → (side s f).active ≡ true → (Ends s f p x → ⊥) → side (step s p x).aintc f ≡ side s f
  -- the agreement bit of one output does not touch the other one (000, table 4-9)
  pub other_side : (s : Aintc) (f : Bool) (p v : ℕ) → sound s ≡ true → bit v (one f) ≡ false → side (write s p 0x48 v).aintc f ≡ side s f
  -- after a step that is carried out a free output is active exactly if some input is eligible; what it then holds is the first of them, at
  -- the priority that this has then (000, 4.3.1.2.3)
  pub chosen_active : (s : Aintc) (f : Bool) (p : ℕ) (x : Step) → sound s ≡ true → (step s p x).refusal ≡ 0 → Free s f p x
      → ((side (step s p x).aintc f).active ≡ true) ↔ SomeEligible (step s p x).aintc f
  pub chosen_first : (s : Aintc) (f : Bool) (p : ℕ) (x : Step) (k : ℕ) → sound s ≡ true → (step s p x).refusal ≡ 0 → Free s f p x
      → First (step s p x).aintc f k → side (step s p x).aintc f ≡ chosen_at k (priority (step s p x).aintc k)
  -- an output of a sound record is inactive only if no input is eligible for it (000, 4.3.1.2.3)
  pub inactive_means : (s : Aintc) (f : Bool) → sound s ≡ true → (side s f).active ≡ false → NoneEligible s f
  -- an output is active exactly if an input is chosen for it (02, 2/12)
  pub irq_active : (s : Aintc) → sound s ≡ true → ((outputs s).irq ≡ true) ↔ SomeChosen s.irq
  pub fiq_active : (s : Aintc) → sound s ≡ true → ((outputs s).fiq ≡ true) ↔ SomeChosen s.fiq
  -- the outputs of a sound record, the number being that of the input chosen for IRQ, 0 with none; 12 and nothing else exactly if it is not
  -- sound (01, Numbers; 02, 2/12)
  pub outputs_sound : (s : Aintc) → sound s ≡ true
      → outputs s ≡ record { refusal = 0; irq = s.irq.active; fiq = s.fiq.active; number = s.irq.number }
  pub outputs_none : (s : Aintc) → sound s ≡ true → s.irq.active ≡ false → (outputs s).number ≡ 0
  pub outputs_unsound : (s : Aintc) → sound s ≡ false → outputs s ≡ record { refusal = 12; irq = false; fiq = false; number = 0 }
