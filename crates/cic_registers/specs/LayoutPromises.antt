-- What is promised of the register map: which register stands at which offset.
use Rattle.std.specs.Prelude.{◌≢◌, ◌≡◌, ℕ, ◌+◌, ◌*◌, ◌<◌, ◌≤◌}
use Rattle.cic_registers.specs.declared.layout.Register.{Register}
use Rattle.cic_registers.specs.declared.layout.Register.TheVariants.{Nothing, Revision, GlobalEnable, StatusIndexSet, StatusIndexClear, EnableIndexSet, EnableIndexClear, HostIndexSet, HostIndexClear, RawSet, EnabledClear, EnableSet, EnableClear, ChannelMap, HostMap, HostEnable}
use Rattle.cic_registers.specs.Map.{register_at}

-- the register stands at the offset
abbrev pub At : ℕ → Register → Type 0
At offset r = register_at offset ≡ r

pub record Promises : Type 0 where
  -- the single registers (001, table 2-1)
  pub revision : At 0x000 Revision
  pub global_enable : At 0x010 GlobalEnable
  pub status_index : At 0x020 StatusIndexSet × At 0x024 StatusIndexClear
  pub enable_index : At 0x028 EnableIndexSet × At 0x02C EnableIndexClear
  pub host_index : At 0x034 HostIndexSet × At 0x038 HostIndexClear
  -- the groups (001, table 2-1)
  pub raw_set : (k : ℕ) → k < 32 → At (0x200 + 4 * k) (RawSet k)
  pub enabled_clear : (k : ℕ) → k < 32 → At (0x280 + 4 * k) (EnabledClear k)
  pub enable_set : (k : ℕ) → k < 32 → At (0x300 + 4 * k) (EnableSet k)
  pub enable_clear : (k : ℕ) → k < 32 → At (0x380 + 4 * k) (EnableClear k)
  pub channel_map : (k : ℕ) → k < 256 → At (0x400 + 4 * k) (ChannelMap k)
  pub host_map : (k : ℕ) → k < 64 → At (0x800 + 4 * k) (HostMap k)
  pub host_enable : (k : ℕ) → k < 8 → At (0x1500 + 4 * k) (HostEnable k)
  -- no control register, no prioritised indices, and no other single register (01, CIC, registers)
  pub no_control : At 0x004 Nothing
  pub no_global_index : At 0x080 Nothing
  pub no_other : (offset : ℕ) → offset < 0x200 → offset ≢ 0x000 → offset ≢ 0x010 → offset ≢ 0x020 → offset ≢ 0x024 → offset ≢ 0x028 → offset ≢ 0x02C → offset ≢ 0x034
      → offset ≢ 0x038 → At offset Nothing
  -- nothing between the host map and the host enables, and nothing after those (01, CIC, registers)
  pub no_host_indices : (offset : ℕ) → 0x900 ≤ offset → offset < 0x1500 → At offset Nothing
  pub nothing_after : (offset : ℕ) → 0x1520 ≤ offset → At offset Nothing
