-- What is promised of CoreInterrupt, one field for each sentence (01, CoreInterrupt; 01, Numbers; 01, When a contract is strong enough).
use Rattle.std.specs.Prelude.{ℕ, ◌+◌, ◌%◌, ◌<◌, ◌≤◌, ◌≡◌, true, false, ◌↔◌, ◌≢◌, ◌⊎◌}
use Rattle.steps.specs.declared.Step.{Step}
use Rattle.steps.specs.declared.Step.TheVariants.{Read, Write, Line}
use Rattle.steps.specs.Refusals.{carried_out, misconfigured, unsound}
use Rattle.steps.specs.Tables.{ReadTable, WriteTable, LineTable}
use Rattle.coreinterrupt.specs.Side.{active, output_level}
use Rattle.coreinterrupt.specs.SidesPromises.{SomeSource, Rules as SideRules}
use Rattle.coreinterrupt.specs.declared.Core.{Core}
use Rattle.coreinterrupt.specs.declared.Answer.{Answer}
use Rattle.coreinterrupt.specs.Model.{sound, within, start, answered, refused, unless_refused, access, read, write, line, step, outputs}
use Rattle.coreinterrupt.specs.Tables.{MapTable, Reads, Writes, Lines}

-- the rules of a sound record: of at most 8 FIQ and 32 IRQ sources, of each side the active level 0 or 1 and no stored bit beyond the count
-- (01, CoreInterrupt)
pub record Rules (c : Core) : Type 0 where
  pub fiq : SideRules 8 c.fiq
  pub irq : SideRules 32 c.irq

-- the numbers of the configuration and their limits: FIQ sources, IRQ sources, FIQ level, IRQ level (01, CoreInterrupt; 004, table 2)
abbrev pub Limited : ℕ → ℕ → Type 0
Limited nth value = ((nth ≡ 0) × (value ≤ 8)) ⊎ (((nth ≡ 1) × (value ≤ 32)) ⊎ (((nth ≡ 2) ⊎ (nth ≡ 3)) × (value ≤ 1)))

pub record Promises : Type 0 where
  -- ---- start
  -- four numbers, at most 8 FIQ sources, 32 IRQ sources, and active levels of 0 or 1 (01, CoreInterrupt; 004, table 2)
  pub configuration : (nth value : ℕ) → (within nth value ≡ true) ↔ Limited nth value
  -- a start with all numbers within their limits has them in its record, the lines low and the registers 0 (01, CoreInterrupt; 004, table 3)
  pub start_taken : (f i fl il : ℕ) → f ≤ 8 → i ≤ 32 → fl ≤ 1 → il ≤ 1
      → start f i fl il
      ≡ record {
        refusal = carried_out;
        core = record {
          fiq = record { count = f; level = fl; inputs = 0; soft = 0; enable = 0 };
          irq = record { count = i; level = il; inputs = 0; soft = 0; enable = 0 };
        };
      }
  -- it is refused by 10 exactly if some number is beyond its limit (01, Numbers)
  pub start_refused : (f i fl il : ℕ) → ((start f i fl il).refusal ≡ misconfigured) ↔ ((8 < f) ⊎ ((32 < i) ⊎ ((1 < fl) ⊎ (1 < il))))
  -- a refused start answers a record whose numbers are all 0 (01, Numbers)
  pub start_zeros : (f i fl il : ℕ) → (start f i fl il).refusal ≢ carried_out
      → start f i fl il
      ≡ record {
        refusal = misconfigured;
        core = record {
          fiq = record { count = 0; level = 0; inputs = 0; soft = 0; enable = 0 };
          irq = record { count = 0; level = 0; inputs = 0; soft = 0; enable = 0 };
        };
      }
  -- every start answers a sound record, a refused one too (01, CoreInterrupt)
  pub start_sound : (f i fl il : ℕ) → sound (start f i fl il).core ≡ true
  -- ---- every step
  -- a step is the read, the write or the line step that its record names (01, House trace)
  pub step_is : (c : Core)
      → ((o : ℕ) → step c (Read o) ≡ read c o) × ((o v : ℕ) → step c (Write o v) ≡ write c o v) × ((k l : ℕ) → step c (Line k l) ≡ line c k l)
  -- a record is sound exactly if it keeps each rule (01, CoreInterrupt)
  pub sound_is : (c : Core) → (sound c ≡ true) ↔ Rules c
  -- a step keeps a sound record sound (01, CoreInterrupt)
  pub step_sound : (c : Core) (x : Step) → sound c ≡ true → sound (step c x).core ≡ true
  -- a step that is carried out answers 0, a value and a record; a refused one its number, the value 0 and the same record (01, Numbers)
  pub answered_is : (c : Core) (v : ℕ) → answered c v ≡ record { refusal = carried_out; value = v; core = c }
  pub refused_is : (c : Core) (n : ℕ) → refused c n ≡ record { refusal = n; value = 0; core = c }
  pub unless_is : (c : Core) (n : ℕ) (a : Answer)
      → (n ≡ carried_out → unless_refused c n a ≡ a) × (n ≢ carried_out → unless_refused c n a ≡ refused c n)
  pub refused_same : (c : Core) (x : Step) → (step c x).refusal ≢ carried_out → step c x ≡ refused c (step c x).refusal
  -- writes and line steps answer the value 0 (01, Numbers)
  pub write_value : (c : Core) (offset v : ℕ) → (write c offset v).value ≡ 0
  pub line_value : (c : Core) (k l : ℕ) → (line c k l).value ≡ 0
  -- each number is given exactly when the table says; no value is refused, and there are 40 lines (01, Numbers; 01, CoreInterrupt)
  pub read_numbers : (c : Core) (offset : ℕ) → ReadTable (sound c) offset (access c offset) (read c offset).refusal
  pub write_numbers : (c : Core) (offset v : ℕ) → WriteTable (sound c) offset (access c offset) carried_out (write c offset v).refusal
  pub line_numbers : (c : Core) (k l : ℕ) → LineTable (sound c) 40 k l (line c k l).refusal
  -- ---- registers and lines
  -- the map, the reads and the writes, register by register (01, CoreInterrupt; 004, table 3)
  pub map : (c : Core) → MapTable c
  pub reads : (c : Core) → sound c ≡ true → Reads c
  pub writes : (c : Core) (v : ℕ) → sound c ≡ true → Writes c v
  -- a line step moves the input of its line alone (01, CoreInterrupt; 004, table 2)
  pub line_moves : (c : Core) (l : ℕ) → sound c ≡ true → l ≤ 1 → Lines c l
  -- a read changes nothing, sound or not (01, CoreInterrupt)
  pub read_keeps : (c : Core) (offset : ℕ) → (read c offset).core ≡ c
  -- with no FIQ sources every FIQ register reads 0, the clears too (01, CoreInterrupt; 004, FIQSoftInt and the five after it)
  pub no_fiq_sources : (c : Core) (offset : ℕ) → sound c ≡ true → c.fiq.count ≡ 0 → offset < 0x18 → offset % 4 ≡ 0
      → read c offset ≡ answered c 0
  -- with no IRQ sources every IRQ register reads 0, the clears too (01, CoreInterrupt; 004, IRQSoftInt and the five after it)
  pub no_irq_sources : (c : Core) (offset : ℕ) → sound c ≡ true → c.irq.count ≡ 0 → 0x18 ≤ offset → offset < 0x30 → offset % 4 ≡ 0
      → read c offset ≡ answered c 0
  -- a write below 0x18 leaves the IRQ side as it was, one from there on the FIQ side (01, CoreInterrupt)
  pub write_side : (c : Core) (offset v : ℕ)
      → (offset < 0x18 → (write c offset v).core.irq ≡ c.irq) × (0x18 ≤ offset → (write c offset v).core.fiq ≡ c.fiq)
  -- lines 0 to 31 leave the FIQ side as it was, those from 32 on the IRQ side (01, CoreInterrupt)
  pub line_side : (c : Core) (k l : ℕ) → (k < 32 → (line c k l).core.fiq ≡ c.fiq) × (32 ≤ k → (line c k l).core.irq ≡ c.irq)
  -- a spare IRQ input may move and changes nothing (01, CoreInterrupt; 004, table 2)
  pub spare_irq : (c : Core) (k l : ℕ) → sound c ≡ true → c.irq.count ≤ k → k < 32 → l ≤ 1 → line c k l ≡ answered c 0
  -- a spare FIQ input may move and changes nothing (01, CoreInterrupt; 004, table 2)
  pub spare_fiq : (c : Core) (k l : ℕ) → sound c ≡ true → 32 + c.fiq.count ≤ k → k < 40 → l ≤ 1 → line c k l ≡ answered c 0
  -- ---- outputs
  -- those of a sound record: of each side, as promised of a side (01, CoreInterrupt)
  pub outputs_sound : (c : Core) → sound c ≡ true
      → outputs c
      ≡ record {
        refusal = carried_out;
        irq = active c.irq;
        fiq = active c.fiq;
        irqlevel = output_level c.irq;
        fiqlevel = output_level c.fiq;
      }
  -- of a record that is not sound the answer is refusal 12 and zeros (01, Numbers)
  pub outputs_unsound : (c : Core) → sound c ≡ false
      → outputs c ≡ record { refusal = unsound; irq = false; fiq = false; irqlevel = 0; fiqlevel = 0 }
  -- IRQ is active exactly if there is an IRQ source that is raised and enabled (01, CoreInterrupt; 004, IRQ Processing)
  pub irq_active : (c : Core) → sound c ≡ true → ((outputs c).irq ≡ true) ↔ SomeSource c.irq.count c.irq
  -- FIQ is active exactly if there is an FIQ source that is raised and enabled (01, CoreInterrupt; 004, FIQ Processing)
  pub fiq_active : (c : Core) → sound c ≡ true → ((outputs c).fiq ≡ true) ↔ SomeSource c.fiq.count c.fiq
  -- the IRQ output is at its active level exactly while it is active (01, CoreInterrupt; 004, table 2)
  pub irq_level : (c : Core) → sound c ≡ true → ((outputs c).irqlevel ≡ c.irq.level) ↔ ((outputs c).irq ≡ true)
  -- the FIQ output is at its active level exactly while it is active (01, CoreInterrupt; 004, table 2)
  pub fiq_level : (c : Core) → sound c ≡ true → ((outputs c).fiqlevel ≡ c.fiq.level) ↔ ((outputs c).fiq ≡ true)
  -- both levels are 0 or 1, so that a level that is not the active one is the other (01, CoreInterrupt)
  pub levels_small : (c : Core) → ((outputs c).irqlevel ≤ 1) × ((outputs c).fiqlevel ≤ 1)
