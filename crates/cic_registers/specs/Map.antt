-- Which register stands at an offset, and what it may be used for (001, table 2-1; 01, CIC, registers).
use Rattle.std.specs.Prelude.{ℕ, ◌-◌, ◌*◌, ◌/◌, eqb, ltb}
use Rattle.words.specs.Choice.{pick}
use Rattle.steps.specs.declared.Access.{Access}
use Rattle.steps.specs.declared.Access.TheVariants.{NoRegister, ReadOnly, WriteOnly, ReadWrite}
use Rattle.cic_record.specs.declared.Cic.{Cic}
use Rattle.cic_registers.specs.declared.layout.Register.{Register}
use Rattle.cic_registers.specs.declared.layout.Register.TheVariants.{Nothing, Revision, GlobalEnable, StatusIndexSet, StatusIndexClear, EnableIndexSet, EnableIndexClear, HostIndexSet, HostIndexClear, RawSet, EnabledClear, EnableSet, EnableClear, ChannelMap, HostMap, HostEnable}

-- the registers below 0x200, one at each offset (001, table 2-1, less 0x004 and 0x080)
unfoldable pub single_at : ℕ → Register
single_at offset =
    pick (eqb offset 0x000) Revision
    (pick (eqb offset 0x010) GlobalEnable
    (pick (eqb offset 0x020) StatusIndexSet
    (pick (eqb offset 0x024) StatusIndexClear
    (pick (eqb offset 0x028) EnableIndexSet
    (pick (eqb offset 0x02C) EnableIndexClear
    (pick (eqb offset 0x034) HostIndexSet
    (pick (eqb offset 0x038) HostIndexClear
    Nothing)))))))

-- the groups from 0x200 on, with the number of the register in its group (001, table 2-1, less 0x900 to 0xCFC)
unfoldable pub register_at : ℕ → Register
register_at offset =
    pick (ltb offset 0x200) (single_at offset)
    (pick (ltb offset 0x280) (RawSet ((offset - 0x200) / 4))
    (pick (ltb offset 0x300) (EnabledClear ((offset - 0x280) / 4))
    (pick (ltb offset 0x380) (EnableSet ((offset - 0x300) / 4))
    (pick (ltb offset 0x400) (EnableClear ((offset - 0x380) / 4))
    (pick (ltb offset 0x800) (ChannelMap ((offset - 0x400) / 4))
    (pick (ltb offset 0x900) (HostMap ((offset - 0x800) / 4))
    (pick (ltb offset 0x1500) Nothing
    (pick (ltb offset 0x1520) (HostEnable ((offset - 0x1500) / 4))
    Nothing))))))))

-- a register whose first bit or byte is that of thing `first` exists if that is one of the n things (01, CIC, registers)
abbrev pub if_any : ℕ → ℕ → Access
if_any first n = pick (ltb first n) ReadWrite NoRegister

-- revision is read-only, index registers are write-only; a register wholly beyond the configured number does not exist (01, CIC, registers)
unfoldable pub access_of : Cic → Register → Access
access_of c Nothing = NoRegister
access_of c Revision = ReadOnly
access_of c GlobalEnable = ReadWrite
access_of c StatusIndexSet = WriteOnly
access_of c StatusIndexClear = WriteOnly
access_of c EnableIndexSet = WriteOnly
access_of c EnableIndexClear = WriteOnly
access_of c HostIndexSet = WriteOnly
access_of c HostIndexClear = WriteOnly
access_of c (RawSet k) = if_any (32 * k) c.systems
access_of c (EnabledClear k) = if_any (32 * k) c.systems
access_of c (EnableSet k) = if_any (32 * k) c.systems
access_of c (EnableClear k) = if_any (32 * k) c.systems
access_of c (ChannelMap k) = if_any (4 * k) c.systems
access_of c (HostMap k) = if_any (4 * k) c.channels
access_of c (HostEnable k) = if_any (32 * k) c.hosts

-- what the register at an offset may be used for
abbrev pub access : Cic → ℕ → Access
access c offset = access_of c (register_at offset)
