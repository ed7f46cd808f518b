-- What is promised of the CIC's steps. The start, sound records and the parts of a record are promised by crate cic_record, the outputs by cic_registers.
use Rattle.std.specs.Prelude.{true, false, not, ◌&&◌, ◌||◌, ◌≡◌, ◌≢◌, ℕ, ◌+◌, ◌*◌, ◌/◌, ◌%◌, ◌<◌, ◌≤◌, eqb}
use Rattle.words.specs.Array.{bit_at, with_bit_at}
use Rattle.words.specs.Choice.{pick}
use Rattle.words.specs.Word.{bit}
use Rattle.steps.specs.declared.Step.{Step}
use Rattle.steps.specs.declared.Step.TheVariants.{Read, Write, Line}
use Rattle.steps.specs.Refusals.{carried_out}
use Rattle.steps.specs.Tables.{ReadTable, WriteTable, LineTable}
use Rattle.cic_record.specs.declared.Cic.{Cic}
use Rattle.cic_record.specs.Promises.{Shaped}
use Rattle.cic_record.specs.Record.{with_lines, with_status, refused, answered}
use Rattle.cic_record.specs.Sound.{sound}
use Rattle.cic_registers.specs.Map.{access}
use Rattle.cic_registers.specs.Model.{refusal_at, read, write, line, step}
use Rattle.cic.specs.Tables.{MapTable, Limits, Reads, Writes}

-- after a write of v at the offset o the status of system interrupt s is 0 and its line still high
abbrev pub ClearedHigh : Cic → ℕ → ℕ → ℕ → Type 0
ClearedHigh c s o v = ((write c o v).refusal ≡ carried_out) × (bit_at (write c o v).cic.status s ≡ false) × (bit_at (write c o v).cic.lines s ≡ true)

pub record Promises : Type 0 where
  -- a step is a read, a write or a line step (01, House trace)
  pub step_is : (c : Cic) → ((o : ℕ) → step c (Read o) ≡ read c o) × ((o v : ℕ) → step c (Write o v) ≡ write c o v) × ((s l : ℕ) → step c (Line s l) ≡ line c s l)
  -- every step keeps a sound record sound, and every array at its length (01, CIC, a sound record)
  pub step_sound : (c : Cic) (x : Step) → sound c ≡ true → sound (step c x).cic ≡ true
  pub step_shaped : (c : Cic) (x : Step) → Shaped c → Shaped (step c x).cic
  -- a step that is refused answers its number, the value 0 and the same record (01, Numbers)
  pub refused_same : (c : Cic) (x : Step) → (step c x).refusal ≢ carried_out → step c x ≡ refused c (step c x).refusal
  -- writes and line steps answer the value 0 (01, Numbers)
  pub write_value : (c : Cic) (o v : ℕ) → (write c o v).value ≡ 0
  pub line_value : (c : Cic) (s l : ℕ) → (line c s l).value ≡ 0
  -- a read changes nothing (001, 2.2)
  pub read_same : (c : Cic) (o : ℕ) → (read c o).cic ≡ c
  -- each number is given exactly when the table says (01, Numbers)
  pub read_numbers : (c : Cic) (o : ℕ) → ReadTable (sound c) o (access c o) (read c o).refusal
  pub write_numbers : (c : Cic) (o v : ℕ) → WriteTable (sound c) o (access c o) (refusal_at c o v) (write c o v).refusal
  pub line_numbers : (c : Cic) (s l : ℕ) → LineTable (sound c) c.systems s l (line c s l).refusal
  -- the map, the limits of values, the reads and the writes, register by register (01, CIC, registers; 001, table 2-1)
  pub map : (c : Cic) → MapTable c
  pub limits : (c : Cic) (v : ℕ) → Limits c v
  pub reads : (c : Cic) → Shaped c → sound c ≡ true → Reads c
  pub writes : (c : Cic) (v : ℕ) → Shaped c → sound c ≡ true → Writes c v
  -- a line step puts its line to the level; a line that was low and is put high sets its status, no other does; nothing else changes (01, CIC, configuration)
  pub line_moves : (c : Cic) (s l : ℕ) → sound c ≡ true → s < c.systems → l ≤ 1
      → line c s l
      ≡ answered (with_lines (with_status c (pick (eqb l 1 && not (bit_at c.lines s)) (with_bit_at c.status s true) c.status)) (with_bit_at c.lines s (eqb l 1))) 0
  -- the same for every line i and every status bit i
  pub line_bits : (c : Cic) (s l : ℕ) → Shaped c → sound c ≡ true → s < c.systems → l ≤ 1 → (i : ℕ)
      → (bit_at (line c s l).cic.lines i ≡ pick (eqb i s) (eqb l 1) (bit_at c.lines i))
      × (bit_at (line c s l).cic.status i ≡ (bit_at c.status i || (eqb i s && (eqb l 1 && not (bit_at c.lines s)))))
  -- a clear works while the line is still high, by its bit and by its index (01, CIC, configuration)
  pub clears_high : (c : Cic) (s v : ℕ) → Shaped c → sound c ≡ true → s < c.systems → bit_at c.lines s ≡ true → bit v (s % 32) ≡ true
      → ClearedHigh c s (0x280 + 4 * (s / 32)) v
  pub index_clears_high : (c : Cic) (s : ℕ) → Shaped c → sound c ≡ true → s < c.systems → bit_at c.lines s ≡ true → ClearedHigh c s 0x024 s
