-- The register map (01, AIC, Map; 003, table 27-2): offsets under the maker's names, and what each register allows.
use Rattle.std.specs.Prelude.{ℕ, eqb, ltb, leb}
use Rattle.words.specs.Choice.{pick}
use Rattle.steps.specs.declared.Access.{Access}
use Rattle.steps.specs.declared.Access.TheVariants.{NoRegister, ReadOnly, WriteOnly, ReadWrite}

-- the first of the 32 source vectors; the 32 source modes stand before it, from offset 0
abbrev pub svr : ℕ
svr = 0x80

-- interrupt vector, fast vector, interrupt status, pending, mask (of the enables), core interrupt status
abbrev pub ivr : ℕ
ivr = 0x100

abbrev pub fvr : ℕ
fvr = 0x104

abbrev pub isr : ℕ
isr = 0x108

abbrev pub ipr : ℕ
ipr = 0x10C

abbrev pub imr : ℕ
imr = 0x110

abbrev pub cisr : ℕ
cisr = 0x114

-- enable, disable, clear, set and end of interrupt commands
abbrev pub iecr : ℕ
iecr = 0x120

abbrev pub idcr : ℕ
idcr = 0x124

abbrev pub iccr : ℕ
iccr = 0x128

abbrev pub iscr : ℕ
iscr = 0x12C

abbrev pub eoicr : ℕ
eoicr = 0x130

-- spurious vector, debug control
abbrev pub spu : ℕ
spu = 0x134

abbrev pub dcr : ℕ
dcr = 0x138

-- fast forcing enable, disable, status
abbrev pub ffer : ℕ
ffer = 0x140

abbrev pub ffdr : ℕ
ffdr = 0x144

abbrev pub ffsr : ℕ
ffsr = 0x148

-- IVR is read-only in table 27-2, yet a write to it is accepted (01, AIC, Map; 02, 9/12; 003, 27.7.5)
unfoldable pub access : ℕ → Access
access o =
    pick (leb o ivr) ReadWrite
    (pick (leb o cisr) ReadOnly
    (pick (ltb o iecr) NoRegister
    (pick (leb o eoicr) WriteOnly
    (pick (leb o dcr) ReadWrite
    (pick (ltb o ffer) NoRegister
    (pick (leb o ffdr) WriteOnly
    (pick (eqb o ffsr) ReadOnly NoRegister)))))))
