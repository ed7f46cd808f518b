-- The map, the reads, the writes and the line steps as sentences, register by register: the promises are made of these.
use Rattle.std.specs.Prelude.{ℕ, ◌+◌, ◌^◌, ◌<◌, ◌≤◌, ◌≡◌, Bool, not, ◌&&◌, ◌||◌, ◌↔◌, ◌≢◌, eqb, ltb}
use Rattle.words.specs.Choice.{pick}
use Rattle.words.specs.Word.{bit}
use Rattle.steps.specs.declared.Access.TheVariants.{NoRegister, ReadOnly, WriteOnly, ReadWrite}
use Rattle.coreinterrupt.specs.Side.{with_inputs, with_soft, with_enable, raw, status}
use Rattle.coreinterrupt.specs.declared.Core.{Core}
use Rattle.coreinterrupt.specs.declared.Answer.{Answer}
use Rattle.coreinterrupt.specs.Model.{answered, access, read, write, line}

-- the step is carried out and answers `value`; its record is what `put` makes of a word of 32 bits whose bit k is `f k` for each k
pub record Sets (a : Answer) (value : ℕ) (put : ℕ → Core) (f : ℕ → Bool) : Type 0 where
  pub word : ℕ
  pub narrow : word < 2 ^ 32
  pub done : a ≡ answered (put word) value
  pub bits : (k : ℕ) → k < 32 → bit word k ≡ f k

-- what each register allows, and which offsets have none (01, CoreInterrupt; 004, table 3)
pub record MapTable (c : Core) : Type 0 where
  -- soft and enable, of FIQ and of IRQ
  pub read_write : (access c 0x00 ≡ ReadWrite) × (access c 0x08 ≡ ReadWrite) × (access c 0x18 ≡ ReadWrite) × (access c 0x20 ≡ ReadWrite)
  -- raw and status
  pub read_only : (access c 0x10 ≡ ReadOnly) × (access c 0x14 ≡ ReadOnly) × (access c 0x28 ≡ ReadOnly) × (access c 0x2C ≡ ReadOnly)
  -- the clears of a side with sources
  pub fiq_clears : c.fiq.count ≢ 0 → (access c 0x04 ≡ WriteOnly) × (access c 0x0C ≡ WriteOnly)
  pub irq_clears : c.irq.count ≢ 0 → (access c 0x1C ≡ WriteOnly) × (access c 0x24 ≡ WriteOnly)
  -- those of a side with none: they may be read, and still take writes (004, FIQSoftIntClear and the like)
  pub fiq_none : c.fiq.count ≡ 0 → (access c 0x04 ≡ ReadWrite) × (access c 0x0C ≡ ReadWrite)
  pub irq_none : c.irq.count ≡ 0 → (access c 0x1C ≡ ReadWrite) × (access c 0x24 ≡ ReadWrite)
  -- the twelve registers lie below 0x30, and none is elsewhere
  pub absent : (offset : ℕ) → (access c offset ≡ NoRegister) ↔ (0x30 ≤ offset)

-- what a read of each register answers, of a sound record; it changes nothing (01, CoreInterrupt; 004, table 3)
pub record Reads (c : Core) : Type 0 where
  pub fiq_soft : read c 0x00 ≡ answered c c.fiq.soft
  pub fiq_enable : read c 0x08 ≡ answered c c.fiq.enable
  -- the sources raised by their line or by software, and those of them that are enabled: bit by bit as promised of a side (004, FIQRawStatus, FIQStatus)
  pub fiq_raw : read c 0x10 ≡ answered c (raw c.fiq)
  pub fiq_status : read c 0x14 ≡ answered c (status c.fiq)
  -- the clears can be read where there are no sources
  pub fiq_clears : c.fiq.count ≡ 0 → (read c 0x04 ≡ answered c 0) × (read c 0x0C ≡ answered c 0)
  pub irq_soft : read c 0x18 ≡ answered c c.irq.soft
  pub irq_enable : read c 0x20 ≡ answered c c.irq.enable
  pub irq_raw : read c 0x28 ≡ answered c (raw c.irq)
  pub irq_status : read c 0x2C ≡ answered c (status c.irq)
  pub irq_clears : c.irq.count ≡ 0 → (read c 0x1C ≡ answered c 0) × (read c 0x24 ≡ answered c 0)

-- what a write of the value v does to a sound record: each bit written as 1 within the count is set, or cleared, in one word of one side,
-- and nothing else changes (01, CoreInterrupt; 004, FIQSoftInt to FIQEnableClear and IRQSoftInt to IRQEnableClear)
pub record Writes (c : Core) (v : ℕ) : Type 0 where
  pub fiq_soft : Sets (write c 0x00 v) 0 (λ w. record { fiq = with_soft c.fiq w; irq = c.irq })
      (λ k. bit c.fiq.soft k || (bit v k && ltb k c.fiq.count))
  pub fiq_soft_clear : Sets (write c 0x04 v) 0 (λ w. record { fiq = with_soft c.fiq w; irq = c.irq })
      (λ k. bit c.fiq.soft k && not (bit v k && ltb k c.fiq.count))
  pub fiq_enable : Sets (write c 0x08 v) 0 (λ w. record { fiq = with_enable c.fiq w; irq = c.irq })
      (λ k. bit c.fiq.enable k || (bit v k && ltb k c.fiq.count))
  pub fiq_enable_clear : Sets (write c 0x0C v) 0 (λ w. record { fiq = with_enable c.fiq w; irq = c.irq })
      (λ k. bit c.fiq.enable k && not (bit v k && ltb k c.fiq.count))
  pub irq_soft : Sets (write c 0x18 v) 0 (λ w. record { fiq = c.fiq; irq = with_soft c.irq w })
      (λ k. bit c.irq.soft k || (bit v k && ltb k c.irq.count))
  pub irq_soft_clear : Sets (write c 0x1C v) 0 (λ w. record { fiq = c.fiq; irq = with_soft c.irq w })
      (λ k. bit c.irq.soft k && not (bit v k && ltb k c.irq.count))
  pub irq_enable : Sets (write c 0x20 v) 0 (λ w. record { fiq = c.fiq; irq = with_enable c.irq w })
      (λ k. bit c.irq.enable k || (bit v k && ltb k c.irq.count))
  pub irq_enable_clear : Sets (write c 0x24 v) 0 (λ w. record { fiq = c.fiq; irq = with_enable c.irq w })
      (λ k. bit c.irq.enable k && not (bit v k && ltb k c.irq.count))

-- what a line step to the level l does to a sound record: the bit of that one input, if it is within the count, is 1 for high and 0 for low,
-- and nothing else changes (01, CoreInterrupt; 004, table 2)
pub record Lines (c : Core) (l : ℕ) : Type 0 where
  -- line k is IRQ input k
  pub irq : (k : ℕ) → k < 32 → Sets (line c k l) 0 (λ w. record { fiq = c.fiq; irq = with_inputs c.irq w })
      (λ j. pick (eqb j k && ltb k c.irq.count) (eqb l 1) (bit c.irq.inputs j))
  -- line 32 + k is FIQ input k
  pub fiq : (k : ℕ) → k < 8 → Sets (line c (32 + k) l) 0 (λ w. record { fiq = with_inputs c.fiq w; irq = c.irq })
      (λ j. pick (eqb j k && ltb k c.fiq.count) (eqb l 1) (bit c.fiq.inputs j))
