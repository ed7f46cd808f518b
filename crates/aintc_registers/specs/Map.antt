-- The register map (000, table 4-3): offsets under the maker's names, and what each register allows.
use Rattle.std.specs.Prelude.{ℕ, ◌+◌, ◌-◌, ◌/◌, ◌%◌, eqb, ltb}
use Rattle.words.specs.Choice.{pick}
use Rattle.steps.specs.declared.Access.{Access}
use Rattle.steps.specs.declared.Access.TheVariants.{NoRegister, ReadOnly, WriteOnly, ReadWrite}

-- revision code, system configuration and status
abbrev pub revision : ℕ
revision = 0x00

abbrev pub sysconfig : ℕ
sysconfig = 0x10

abbrev pub sysstatus : ℕ
sysstatus = 0x14

-- the active numbers, the agreement bits
abbrev pub sir_irq : ℕ
sir_irq = 0x40

abbrev pub sir_fiq : ℕ
sir_fiq = 0x44

abbrev pub control : ℕ
control = 0x48

-- protection, clock gating
abbrev pub protection : ℕ
protection = 0x4C

abbrev pub idle : ℕ
idle = 0x50

-- the active priorities, the threshold
abbrev pub irq_priority : ℕ
irq_priority = 0x60

abbrev pub fiq_priority : ℕ
fiq_priority = 0x64

abbrev pub threshold : ℕ
threshold = 0x68

-- four banks of eight registers, 0x20 bytes each, one bank for each word of the inputs; these are the registers of bank 0:
-- raw inputs, masks, masks cleared and set, soft interrupts set and cleared, pending for IRQ and for FIQ
abbrev pub itr : ℕ
itr = 0x80

abbrev pub mir : ℕ
mir = 0x84

abbrev pub mir_clear : ℕ
mir_clear = 0x88

abbrev pub mir_set : ℕ
mir_set = 0x8C

abbrev pub isr_set : ℕ
isr_set = 0x90

abbrev pub isr_clear : ℕ
isr_clear = 0x94

abbrev pub pending_irq : ℕ
pending_irq = 0x98

abbrev pub pending_fiq : ℕ
pending_fiq = 0x9C

-- the routes of the 128 inputs; from `past` on there is nothing
abbrev pub ilr : ℕ
ilr = 0x100

abbrev pub past : ℕ
past = 0x300

-- the row of the table that an offset is in, told by the first offset of the row: a register of a bank is in the row of its like in
-- bank 0, each route in that of input 0
unfoldable pub row_of : ℕ → ℕ
row_of o = pick (ltb o itr) o (pick (ltb o ilr) (itr + o % 0x20) (pick (ltb o past) ilr past))

-- what the registers of each row allow: the access letters of figures 4-6 to 4-25; MIR takes writes, though its figure says R, since
-- the text says so (000, 4.4.1)
unfoldable pub row_access : ℕ → Access
row_access r =
    pick (eqb r revision) ReadWrite
    (pick (eqb r sysconfig) ReadWrite
    (pick (eqb r sysstatus) ReadOnly
    (pick (eqb r sir_irq) ReadOnly
    (pick (eqb r sir_fiq) ReadOnly
    (pick (eqb r control) WriteOnly
    (pick (eqb r protection) ReadWrite
    (pick (eqb r idle) ReadWrite
    (pick (eqb r irq_priority) ReadOnly
    (pick (eqb r fiq_priority) ReadOnly
    (pick (eqb r threshold) ReadWrite
    (pick (eqb r itr) ReadOnly
    (pick (eqb r mir) ReadWrite
    (pick (eqb r mir_clear) WriteOnly
    (pick (eqb r mir_set) WriteOnly
    (pick (eqb r isr_set) ReadWrite
    (pick (eqb r isr_clear) WriteOnly
    (pick (eqb r pending_irq) ReadOnly
    (pick (eqb r pending_fiq) ReadOnly
    (pick (eqb r ilr) ReadWrite NoRegister)))))))))))))))))))

-- what the register at an aligned offset allows (000, table 4-3)
unfoldable pub access : ℕ → Access
access o = row_access (row_of o)

-- which bank a register of a bank is in, and which input a route is of (000, table 4-3: 0x80 + 0x20 * n, 0x100 + 4 * m)
abbrev pub bank_of : ℕ → ℕ
bank_of o = (o - itr) / 0x20

abbrev pub input_of : ℕ → ℕ
input_of o = (o - ilr) / 4
