-- The status and the enable of the system interrupts, of which each makes one active: where they stand, and the registers that set and clear them.
use Rattle.std.specs.Prelude.{ℕ, List}
use Rattle.cic_record.specs.declared.Cic.{Cic}
use Rattle.cic_record.specs.Record.{with_status, with_enable}
use Rattle.cic_registers.specs.declared.layout.Register.{Register}
use Rattle.cic_registers.specs.declared.layout.Register.TheVariants.{RawSet, EnabledClear, EnableSet, EnableClear}
use Rattle.cic_room.specs.declared.laid.Bits.{Bits}
use Rattle.cic_room.specs.declared.laid.Bits.TheVariants.{Status, Enable}

-- where their words stand in a room
abbrev pub place : Bits → ℕ
place Status = 96
place Enable = 128

-- the words
abbrev pub bits_of : Bits → Cic → List ℕ
bits_of Status c = c.status
bits_of Enable c = c.enable

-- the record with the words x
abbrev pub with_bits : Bits → Cic → List ℕ → Cic
with_bits Status c x = with_status c x
with_bits Enable c x = with_enable c x

-- the register k that sets them, and the one that clears them
abbrev pub setting : Bits → ℕ → Register
setting Status k = RawSet k
setting Enable k = EnableSet k

abbrev pub clearing : Bits → ℕ → Register
clearing Status k = EnabledClear k
clearing Enable k = EnableClear k
