-- What is promised of one side, one field for each sentence (01, CoreInterrupt).
use Rattle.std.specs.Prelude.{ℕ, ◌^◌, ◌<◌, ◌≤◌, ◌≡◌, Bool, true, false, not, ◌&&◌, ◌||◌, ◌↔◌, ◌≢◌, eqb, ltb}
use Rattle.words.specs.Choice.{pick}
use Rattle.words.specs.Word.{bit}
use Rattle.steps.specs.declared.Access.TheVariants.{NoRegister, ReadOnly, WriteOnly, ReadWrite}
use Rattle.steps.specs.Tables.{Readable}
use Rattle.coreinterrupt.specs.declared.sides.Side.{Side}
use Rattle.coreinterrupt.specs.Side.{idle, with_inputs, with_soft, with_enable, raw, status, active, output_level, side_access, side_read, side_write, moved, side_sound}

-- there is a source, of those below n, that is raised and enabled
abbrev pub SomeSource : ℕ → Side → Type 0
SomeSource n s = (k : ℕ) × (k < n) × ((bit (raw s) k ≡ true) × (bit s.enable k ≡ true))

-- the rules of a sound side, in sentences: a word with no bit from n on is below 2 ^ n (01, CoreInterrupt)
pub record Rules (limit : ℕ) (s : Side) : Type 0 where
  pub counted : s.count ≤ limit
  pub levelled : s.level ≤ 1
  pub lined : s.inputs < 2 ^ s.count
  pub softened : s.soft < 2 ^ s.count
  pub enabled : s.enable < 2 ^ s.count

pub record Promises : Type 0 where
  -- ---- the record
  -- as configured: its count, its active level, the lines low and the registers 0 (01, CoreInterrupt; 004, table 3)
  pub idle_is : (n l : ℕ) → idle n l ≡ record { count = n; level = l; inputs = 0; soft = 0; enable = 0 }
  -- with other lines, another soft word or another enable word all else is as it was
  pub inputs_put : (s : Side) (w : ℕ) → with_inputs s w ≡ record { count = s.count; level = s.level; inputs = w; soft = s.soft; enable = s.enable }
  pub soft_put : (s : Side) (w : ℕ) → with_soft s w ≡ record { count = s.count; level = s.level; inputs = s.inputs; soft = w; enable = s.enable }
  pub enable_put : (s : Side) (w : ℕ) → with_enable s w ≡ record { count = s.count; level = s.level; inputs = s.inputs; soft = s.soft; enable = w }
  -- ---- soundness
  -- a side is sound exactly if it keeps each rule (01, CoreInterrupt)
  pub sound_is : (limit : ℕ) (s : Side) → (side_sound limit s ≡ true) ↔ Rules limit s
  -- a side as configured within its limits is sound
  pub idle_sound : (limit n l : ℕ) → n ≤ limit → l ≤ 1 → side_sound limit (idle n l) ≡ true
  -- a write keeps a sound side sound, whatever is written
  pub write_sound : (i v limit : ℕ) (s : Side) → side_sound limit s ≡ true → side_sound limit (side_write s i v) ≡ true
  -- so does a line that moves
  pub line_sound : (k : ℕ) (high : Bool) (limit : ℕ) (s : Side) → side_sound limit s ≡ true → side_sound limit (moved s k high) ≡ true
  -- ---- what a register may be used for
  -- the registers are 0 to 5
  pub six_registers : (s : Side) (i : ℕ) → (side_access s i ≡ NoRegister) ↔ (6 ≤ i)
  -- soft and enable are read and written, whatever the count (004, table 3)
  pub soft_read_write : (s : Side) → (side_access s 0 ≡ ReadWrite) × (side_access s 2 ≡ ReadWrite)
  -- with sources, the clears are write-only (004, table 3)
  pub clears_hidden : (s : Side) → s.count ≢ 0 → (side_access s 1 ≡ WriteOnly) × (side_access s 3 ≡ WriteOnly)
  -- with no sources they may be read, and still take writes (01, CoreInterrupt; 004, FIQSoftIntClear)
  pub clears_shown : (s : Side) → s.count ≡ 0 → (side_access s 1 ≡ ReadWrite) × (side_access s 3 ≡ ReadWrite)
  -- raw and status are read-only, whatever the count (004, table 3)
  pub raw_read_only : (s : Side) → (side_access s 4 ≡ ReadOnly) × (side_access s 5 ≡ ReadOnly)
  -- with no sources, every register may be read, the clears too (004, FIQSoftInt and the five after it)
  pub none_readable : (s : Side) (i : ℕ) → s.count ≡ 0 → i < 6 → Readable (side_access s i)
  -- and answers 0
  pub none_zero : (limit : ℕ) (s : Side) → side_sound limit s ≡ true → s.count ≡ 0 → (i : ℕ) → side_read s i ≡ 0
  -- ---- what a register answers
  -- soft and enable what they hold, the clears 0, then raw and status (01, CoreInterrupt; 004, table 3)
  pub reads : (s : Side) → (side_read s 0 ≡ s.soft) × (side_read s 1 ≡ 0) × (side_read s 2 ≡ s.enable) × (side_read s 3 ≡ 0) × (side_read s 4 ≡ raw s)
      × (side_read s 5 ≡ status s)
  pub read_else : (s : Side) (i : ℕ) → 6 ≤ i → side_read s i ≡ 0
  -- a bit of raw is the input's or the soft bit, and raw is a word of 32 bits (004, FIQRawStatus)
  pub raw_bit : (s : Side) (k : ℕ) → k < 32 → bit (raw s) k ≡ (bit s.inputs k || bit s.soft k)
  pub raw_word : (s : Side) → raw s < 2 ^ 32
  -- a bit of status is the raw bit where the source is enabled, and status is a word of 32 bits (004, FIQStatus)
  pub status_bit : (s : Side) (k : ℕ) → k < 32 → bit (status s) k ≡ (bit (raw s) k && bit s.enable k)
  pub status_word : (s : Side) → status s < 2 ^ 32
  -- ---- what a write does to the bit of source k
  -- soft: written as 1 and within the count, the soft bit is set, else it stays (004, FIQSoftInt)
  pub soft_set : (s : Side) (v k : ℕ) → k < 32 → bit (side_write s 0 v).soft k ≡ (bit s.soft k || (bit v k && ltb k s.count))
  -- soft clear: written as 1 and within the count, the soft bit is cleared, else it stays (004, FIQSoftIntClear)
  pub soft_clear : (s : Side) (v k : ℕ) → k < 32 → bit (side_write s 1 v).soft k ≡ (bit s.soft k && not (bit v k && ltb k s.count))
  -- these two leave a word of 32 bits and touch nothing else
  pub soft_word : (s : Side) (i v : ℕ) → i < 2 → (side_write s i v).soft < 2 ^ 32
  pub soft_only : (s : Side) (i v : ℕ) → i < 2 → side_write s i v ≡ with_soft s (side_write s i v).soft
  -- enable: as soft, on the enable bits (004, FIQEnable)
  pub enable_set : (s : Side) (v k : ℕ) → k < 32 → bit (side_write s 2 v).enable k ≡ (bit s.enable k || (bit v k && ltb k s.count))
  -- enable clear: as soft clear, on the enable bits (004, FIQEnableClear)
  pub enable_clear : (s : Side) (v k : ℕ) → k < 32
      → bit (side_write s 3 v).enable k ≡ (bit s.enable k && not (bit v k && ltb k s.count))
  -- these two leave a word of 32 bits and touch nothing else
  pub enable_word : (s : Side) (i v : ℕ) → 2 ≤ i → i < 4 → (side_write s i v).enable < 2 ^ 32
  pub enable_only : (s : Side) (i v : ℕ) → 2 ≤ i → i < 4 → side_write s i v ≡ with_enable s (side_write s i v).enable
  -- no other register takes anything
  pub write_else : (s : Side) (i v : ℕ) → 4 ≤ i → side_write s i v ≡ s
  -- ---- what a line that moves does to the bit of input j
  -- line k moves the bit of its own input, if that is within the count, and no other (004, table 2)
  pub line_bit : (s : Side) (k j : ℕ) (high : Bool) → j < 32
      → bit (moved s k high).inputs j ≡ pick (eqb j k && ltb k s.count) high (bit s.inputs j)
  -- it leaves a word of 32 bits and touches nothing else
  pub line_word : (s : Side) (k : ℕ) (high : Bool) → s.inputs < 2 ^ 32 → (moved s k high).inputs < 2 ^ 32
  pub line_only : (s : Side) (k : ℕ) (high : Bool) → moved s k high ≡ with_inputs s (moved s k high).inputs
  -- a spare input changes nothing (004, table 2)
  pub spare : (s : Side) (k : ℕ) (high : Bool) → s.count ≤ k → moved s k high ≡ s
  -- ---- the output
  -- it is active exactly if some source is raised and enabled, over all 32 bits of the words, sound or not
  pub output_active : (s : Side) → (active s ≡ true) ↔ SomeSource 32 s
  -- of a sound side, such a source is one of those configured (004, FIQ Processing, IRQ Processing)
  pub source_active : (limit : ℕ) (s : Side) → limit ≤ 32 → side_sound limit s ≡ true → (active s ≡ true) ↔ SomeSource s.count s
  -- and exactly if its status is not 0 (01, CoreInterrupt)
  pub status_active : (s : Side) → (active s ≡ true) ↔ (status s ≢ 0)
  -- its level is the active level while it is active, else the other: 1 for 0, and 0 for 1 (01, CoreInterrupt; 004, table 2)
  pub level_held : (s : Side) → active s ≡ true → output_level s ≡ s.level
  pub level_left : (s : Side) → active s ≡ false → (s.level ≡ 0 → output_level s ≡ 1) × (s.level ≢ 0 → output_level s ≡ 0)
  -- of a sound side it is at the active level exactly while it is active (004, table 2)
  pub level_active : (limit : ℕ) (s : Side) → side_sound limit s ≡ true → (output_level s ≡ s.level) ↔ (active s ≡ true)
  -- and its level is 0 or 1, so that a level that is not the active one is the other
  pub level_small : (limit : ℕ) (s : Side) → side_sound limit s ≡ true → output_level s ≤ 1
