-- The promises of the register map are kept.
use mathlib.Core.Path.{◌≡◌, refl, ◌∙◌}
use mathlib.Core.Logic.{◌≢◌}
use Prim.Native.Nat.{ℕ, ◌+◌, ◌-◌, ◌*◌, ◌/◌, ◌<◌, ◌≤◌}
use native.Mathlib.Omega.{arith}
use borrow.Author.Tests.{lt-ltb, le-ltb, ne_eqb}
use lib.Dec.{ltb}
use Rattle.words.specs.Choice.{pick}
use Rattle.cic_registers.specs.declared.layout.Register.TheVariants.{Nothing, RawSet, EnabledClear, EnableSet, EnableClear, ChannelMap, HostMap, HostEnable}
use Rattle.cic_registers.specs.Map.{single_at, register_at}
use Rattle.cic_registers.specs.LayoutPromises.{At, Promises}

-- ---- where the registers stand

-- the offset of register k of a group, taken back to k
quarter : (base k : ℕ) → (base + 4 * k - base) / 4 ≡ k
quarter base k = omega arith

raw_at : (k : ℕ) → k < 32 → At (0x200 + 4 * k) (RawSet k)
unfolding register_at pick
raw_at k l = rw (le-ltb (0x200 + 4 * k) 0x200 (omega arith), lt-ltb (0x200 + 4 * k) 0x280 (omega arith), quarter 0x200 k)

enabled_at : (k : ℕ) → k < 32 → At (0x280 + 4 * k) (EnabledClear k)
unfolding register_at pick
enabled_at k l = rw (le-ltb (0x280 + 4 * k) 0x200 (omega arith), le-ltb (0x280 + 4 * k) 0x280 (omega arith), lt-ltb (0x280 + 4 * k) 0x300 (omega arith), quarter 0x280 k)

set_at : (k : ℕ) → k < 32 → At (0x300 + 4 * k) (EnableSet k)
unfolding register_at pick
set_at k l =
    rw (
      le-ltb (0x300 + 4 * k) 0x200 (omega arith),
      le-ltb (0x300 + 4 * k) 0x280 (omega arith),
      le-ltb (0x300 + 4 * k) 0x300 (omega arith),
      lt-ltb (0x300 + 4 * k) 0x380 (omega arith),
      quarter 0x300 k,
    )

clear_at : (k : ℕ) → k < 32 → At (0x380 + 4 * k) (EnableClear k)
unfolding register_at pick
clear_at k l =
    rw (
      le-ltb (0x380 + 4 * k) 0x200 (omega arith),
      le-ltb (0x380 + 4 * k) 0x280 (omega arith),
      le-ltb (0x380 + 4 * k) 0x300 (omega arith),
      le-ltb (0x380 + 4 * k) 0x380 (omega arith),
      lt-ltb (0x380 + 4 * k) 0x400 (omega arith),
      quarter 0x380 k,
    )

channels_at : (k : ℕ) → k < 256 → At (0x400 + 4 * k) (ChannelMap k)
unfolding register_at pick
channels_at k l =
    rw (
      le-ltb (0x400 + 4 * k) 0x200 (omega arith),
      le-ltb (0x400 + 4 * k) 0x280 (omega arith),
      le-ltb (0x400 + 4 * k) 0x300 (omega arith),
      le-ltb (0x400 + 4 * k) 0x380 (omega arith),
      le-ltb (0x400 + 4 * k) 0x400 (omega arith),
      lt-ltb (0x400 + 4 * k) 0x800 (omega arith),
      quarter 0x400 k,
    )

hosts_at : (k : ℕ) → k < 64 → At (0x800 + 4 * k) (HostMap k)
unfolding register_at pick
hosts_at k l =
    rw (
      le-ltb (0x800 + 4 * k) 0x200 (omega arith),
      le-ltb (0x800 + 4 * k) 0x280 (omega arith),
      le-ltb (0x800 + 4 * k) 0x300 (omega arith),
      le-ltb (0x800 + 4 * k) 0x380 (omega arith),
      le-ltb (0x800 + 4 * k) 0x400 (omega arith),
      le-ltb (0x800 + 4 * k) 0x800 (omega arith),
      lt-ltb (0x800 + 4 * k) 0x900 (omega arith),
      quarter 0x800 k,
    )

-- from 0x900 on only the host enables are left
late : (o : ℕ) → 0x900 ≤ o → register_at o ≡ pick (ltb o 0x1500) Nothing (pick (ltb o 0x1520) (HostEnable ((o - 0x1500) / 4)) Nothing)
unfolding register_at pick
late o l =
    rw (
      le-ltb o 0x200 (omega arith),
      le-ltb o 0x280 (omega arith),
      le-ltb o 0x300 (omega arith),
      le-ltb o 0x380 (omega arith),
      le-ltb o 0x400 (omega arith),
      le-ltb o 0x800 (omega arith),
      le-ltb o 0x900 (omega arith),
    )

enables_at : (k : ℕ) → k < 8 → At (0x1500 + 4 * k) (HostEnable k)
unfolding pick
enables_at k l = late (0x1500 + 4 * k) (omega arith) ∙ rw (le-ltb (0x1500 + 4 * k) 0x1500 (omega arith), lt-ltb (0x1500 + 4 * k) 0x1520 (omega arith), quarter 0x1500 k)

gap : (o : ℕ) → 0x900 ≤ o → o < 0x1500 → At o Nothing
unfolding pick
gap o l m = late o l ∙ rw (lt-ltb o 0x1500 m)

after : (o : ℕ) → 0x1520 ≤ o → At o Nothing
unfolding pick
after o l = late o (omega arith) ∙ rw (le-ltb o 0x1500 (omega arith), le-ltb o 0x1520 l)

no_other : (o : ℕ) → o < 0x200 → o ≢ 0x000 → o ≢ 0x010 → o ≢ 0x020 → o ≢ 0x024 → o ≢ 0x028 → o ≢ 0x02C → o ≢ 0x034 → o ≢ 0x038 → At o Nothing
unfolding register_at single_at pick
no_other o l a b c d e f g h =
    simp (
      lt-ltb o 0x200 l,
      ne_eqb o 0x000 a,
      ne_eqb o 0x010 b,
      ne_eqb o 0x020 c,
      ne_eqb o 0x024 d,
      ne_eqb o 0x028 e,
      ne_eqb o 0x02C f,
      ne_eqb o 0x034 g,
      ne_eqb o 0x038 h,
    )

pub kept : Promises
unfolding register_at single_at pick
kept =
    record {
      revision = refl;
      global_enable = refl;
      status_index = (refl, refl);
      enable_index = (refl, refl);
      host_index = (refl, refl);
      raw_set = raw_at;
      enabled_clear = enabled_at;
      enable_set = set_at;
      enable_clear = clear_at;
      channel_map = channels_at;
      host_map = hosts_at;
      host_enable = enables_at;
      no_control = refl;
      no_global_index = refl;
      no_other = no_other;
      no_host_indices = gap;
      nothing_after = after;
    }
