-- What each register answers, which values it refuses, and what a write does (01, CIC, registers; 001, 2.2.1 to 2.2.18).
use Rattle.std.specs.Prelude.{Bool, true, false, ℕ, ◌%◌, ltb}
use Rattle.words.specs.Array.{with_bit_at}
use Rattle.words.specs.Choice.{pick}
use Rattle.words.specs.Word.{both}
use Rattle.steps.specs.Refusals.{carried_out, beyond}
use Rattle.cic_record.specs.declared.Cic.{Cic}
use Rattle.cic_record.specs.Record.{with_global, with_status, with_enable, with_channel, with_host, with_allow}
use Rattle.cic_registers.specs.Maps.{map_read, map_taken, map_put}
use Rattle.cic_registers.specs.Bits.{word_read, bits_set, bits_cleared, word_replaced}
use Rattle.cic_registers.specs.declared.layout.Register.{Register}
use Rattle.cic_registers.specs.declared.layout.Register.TheVariants.{Nothing, Revision, GlobalEnable, StatusIndexSet, StatusIndexClear, EnableIndexSet, EnableIndexClear, HostIndexSet, HostIndexClear, RawSet, EnabledClear, EnableSet, EnableClear, ChannelMap, HostMap, HostEnable}

-- what a read of a register that exists answers (01, CIC, registers; 001, 2.2)
unfoldable pub value_of : Cic → Register → ℕ
value_of c Nothing = 0
value_of c Revision = c.revision
value_of c GlobalEnable = c.global
value_of c StatusIndexSet = 0
value_of c StatusIndexClear = 0
value_of c EnableIndexSet = 0
value_of c EnableIndexClear = 0
value_of c HostIndexSet = 0
value_of c HostIndexClear = 0
value_of c (RawSet k) = word_read c.systems c.status k
value_of c (EnabledClear k) = both (word_read c.systems c.status k) (word_read c.systems c.enable k)
value_of c (EnableSet k) = word_read c.systems c.enable k
value_of c (EnableClear k) = word_read c.systems c.enable k
value_of c (ChannelMap k) = map_read c.systems c.channel k
value_of c (HostMap k) = map_read c.channels c.host k
value_of c (HostEnable k) = word_read c.hosts c.allow k

-- 6 unless the test holds
abbrev pub unless : Bool → ℕ
unless test = pick test carried_out beyond

-- the number by which a written value is refused, 0 where it is not: an index is compared whole (01, CIC, registers)
unfoldable pub value_refusal : Cic → Register → ℕ → ℕ
value_refusal c Nothing v = carried_out
value_refusal c Revision v = carried_out
value_refusal c GlobalEnable v = carried_out
value_refusal c StatusIndexSet v = unless (ltb v c.systems)
value_refusal c StatusIndexClear v = unless (ltb v c.systems)
value_refusal c EnableIndexSet v = unless (ltb v c.systems)
value_refusal c EnableIndexClear v = unless (ltb v c.systems)
value_refusal c HostIndexSet v = unless (ltb v c.hosts)
value_refusal c HostIndexClear v = unless (ltb v c.hosts)
value_refusal c (RawSet k) v = carried_out
value_refusal c (EnabledClear k) v = carried_out
value_refusal c (EnableSet k) v = carried_out
value_refusal c (EnableClear k) v = carried_out
value_refusal c (ChannelMap k) v = unless (map_taken c.systems c.channels k v)
value_refusal c (HostMap k) v = unless (map_taken c.channels c.hosts k v)
value_refusal c (HostEnable k) v = carried_out

-- the record after a write that is carried out (01, CIC, registers; 001, 2.2)
unfoldable pub written_to : Cic → Register → ℕ → Cic
written_to c Nothing v = c
written_to c Revision v = c
written_to c GlobalEnable v = with_global c (v % 2)
written_to c StatusIndexSet v = with_status c (with_bit_at c.status v true)
written_to c StatusIndexClear v = with_status c (with_bit_at c.status v false)
written_to c EnableIndexSet v = with_enable c (with_bit_at c.enable v true)
written_to c EnableIndexClear v = with_enable c (with_bit_at c.enable v false)
written_to c HostIndexSet v = with_allow c (with_bit_at c.allow v true)
written_to c HostIndexClear v = with_allow c (with_bit_at c.allow v false)
written_to c (RawSet k) v = with_status c (bits_set c.systems c.status k v)
written_to c (EnabledClear k) v = with_status c (bits_cleared c.status k v)
written_to c (EnableSet k) v = with_enable c (bits_set c.systems c.enable k v)
written_to c (EnableClear k) v = with_enable c (bits_cleared c.enable k v)
written_to c (ChannelMap k) v = with_channel c (map_put c.systems k v c.channel)
written_to c (HostMap k) v = with_host c (map_put c.channels k v c.host)
written_to c (HostEnable k) v = with_allow c (word_replaced c.hosts c.allow k v)
