-- The controller: its configuration, its registers by offset, its lines and its outputs (01, CoreInterrupt; 004).
use Rattle.std.specs.Prelude.{ℕ, ◌-◌, ◌/◌, Bool, false, ◌&&◌, ◌||◌, eqb, ltb, leb}
use Rattle.words.specs.Choice.{pick}
use Rattle.steps.specs.declared.Access.{Access}
use Rattle.steps.specs.declared.Step.{Step}
use Rattle.steps.specs.declared.Step.TheVariants.{Read, Write, Line}
use Rattle.steps.specs.Refusals.{carried_out, misconfigured, unsound, read_refusal, write_refusal, line_refusal}
use Rattle.coreinterrupt.specs.declared.sides.Side.{Side}
use Rattle.coreinterrupt.specs.declared.Core.{Core}
use Rattle.coreinterrupt.specs.declared.Begun.{Begun}
use Rattle.coreinterrupt.specs.declared.Answer.{Answer}
use Rattle.coreinterrupt.specs.declared.Signals.{Signals}
use Rattle.coreinterrupt.specs.Side.{idle, active, output_level, side_access, side_read, side_write, moved, side_sound}

-- ---- numbers of the paper

-- FIQ sources at most, and so FIQ inputs (01, CoreInterrupt; 004, table 2)
abbrev pub fiq_limit : ℕ
fiq_limit = 8

-- IRQ sources at most, and so IRQ inputs (01, CoreInterrupt; 004, table 2)
abbrev pub irq_limit : ℕ
irq_limit = 32

-- all input lines: the IRQ inputs, then the FIQ inputs (01, CoreInterrupt)
abbrev pub line_limit : ℕ
line_limit = 40

-- the offset of the first IRQ register; the FIQ registers stand before it (01, CoreInterrupt; 004, table 3)
abbrev pub irq_base : ℕ
irq_base = 0x18

-- ---- the sides of the record

abbrev pub core_of : Side → Side → Core
core_of f i = record { fiq = f; irq = i }

-- the FIQ side or the IRQ side
unfoldable pub side : Core → Bool → Side
side c fast = pick fast c.fiq c.irq

-- the record with the FIQ side or the IRQ side replaced
unfoldable pub with_side : Core → Bool → Side → Core
with_side c fast s = pick fast (core_of s c.irq) (core_of c.fiq s)

-- both sides keep their rules (01, CoreInterrupt, a sound record)
unfoldable pub sound : Core → Bool
sound c = side_sound fiq_limit c.fiq && side_sound irq_limit c.irq

-- ---- start

-- whether the nth number of the configuration may have a value: FIQ count, IRQ count, FIQ level, IRQ level (01, CoreInterrupt)
unfoldable pub within : ℕ → ℕ → Bool
within nth v =
    pick (eqb nth 0) (leb v fiq_limit) (pick (eqb nth 1) (leb v irq_limit) (pick (eqb nth 2 || eqb nth 3) (leb v 1) false))

-- every number of the configuration is within its limit
unfoldable pub all_within : ℕ → ℕ → ℕ → ℕ → Bool
all_within fiqs irqs fiq_level irq_level = within 0 fiqs && within 1 irqs && within 2 fiq_level && within 3 irq_level

-- the record as configured, or refusal 10 and a record of zeros (01, CoreInterrupt; 01, Numbers)
unfoldable pub start : ℕ → ℕ → ℕ → ℕ → Begun
start fiqs irqs fiq_level irq_level =
    pick (all_within fiqs irqs fiq_level irq_level)
    (record { refusal = carried_out; core = core_of (idle fiqs fiq_level) (idle irqs irq_level) })
    (record { refusal = misconfigured; core = core_of (idle 0 0) (idle 0 0) })

-- ---- answers

-- a step that is carried out
abbrev pub answered : Core → ℕ → Answer
answered c v = record { refusal = carried_out; value = v; core = c }

-- a step that is refused: its number, the value 0 and the same record (01, Numbers)
abbrev pub refused : Core → ℕ → Answer
refused c n = record { refusal = n; value = 0; core = c }

-- the refusal n, or the answer a where nothing is refused
unfoldable pub unless_refused : Core → ℕ → Answer → Answer
unless_refused c n a = pick (eqb n carried_out) a (refused c n)

-- ---- registers

-- an offset before the IRQ registers is the FIQ side's
unfoldable pub fiq_offset : ℕ → Bool
fiq_offset offset = ltb offset irq_base

-- the number of the register within its side: one each four bytes (01, CoreInterrupt)
unfoldable pub register : ℕ → ℕ
register offset = pick (fiq_offset offset) (offset / 4) ((offset - irq_base) / 4)

-- what the register at an offset may be used for (01, CoreInterrupt; 004, table 3)
unfoldable pub access : Core → ℕ → Access
access c offset = side_access (side c (fiq_offset offset)) (register offset)

-- what the register at an offset answers
unfoldable pub value_at : Core → ℕ → ℕ
value_at c offset = side_read (side c (fiq_offset offset)) (register offset)

-- the record after the register at an offset took a value
unfoldable pub written : Core → ℕ → ℕ → Core
written c offset v = with_side c (fiq_offset offset) (side_write (side c (fiq_offset offset)) (register offset) v)

-- a read (01, CoreInterrupt; 01, Numbers)
unfoldable pub read : Core → ℕ → Answer
read c offset = unless_refused c (read_refusal (sound c) offset (access c offset)) (answered c (value_at c offset))

-- a write; no value is refused (01, CoreInterrupt; 01, Numbers)
unfoldable pub write : Core → ℕ → ℕ → Answer
write c offset v = unless_refused c (write_refusal (sound c) offset (access c offset) carried_out) (answered (written c offset v) 0)

-- ---- lines

-- the lines after the IRQ inputs are the FIQ inputs (01, CoreInterrupt)
unfoldable pub fiq_line : ℕ → Bool
fiq_line k = leb irq_limit k

-- the number of the line within its side
unfoldable pub input : ℕ → ℕ
input k = pick (fiq_line k) (k - irq_limit) k

-- the record after line k is put high or low
unfoldable pub line_moved : Core → ℕ → Bool → Core
line_moved c k high = with_side c (fiq_line k) (moved (side c (fiq_line k)) (input k) high)

-- a line step: level 1 is high, 0 is low (01, CoreInterrupt; 01, Numbers)
unfoldable pub line : Core → ℕ → ℕ → Answer
line c k l = unless_refused c (line_refusal (sound c) line_limit k l) (answered (line_moved c k (eqb l 1)) 0)

-- ---- steps and outputs

-- one step (01, House trace)
abbrev pub step : Core → Step → Answer
step c (Read offset) = read c offset
step c (Write offset v) = write c offset v
step c (Line k l) = line c k l

-- both outputs, whether active and at which level; of a record that is not sound refusal 12 and zeros (01, CoreInterrupt)
unfoldable pub outputs : Core → Signals
outputs c =
    pick (sound c)
    (record {
      refusal = carried_out;
      irq = active c.irq;
      fiq = active c.fiq;
      irqlevel = output_level c.irq;
      fiqlevel = output_level c.fiq;
    })
    (record { refusal = unsound; irq = false; fiq = false; irqlevel = 0; fiqlevel = 0 })
