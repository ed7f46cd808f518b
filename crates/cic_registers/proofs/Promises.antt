-- The promises of the registers are kept.
use mathlib.Core.Path.{◌≡◌, refl, ap₂, ◌∙◌}
use mathlib.Core.Bool.{Bool, ◌&&◌}
use Prim.Native.Nat.{ℕ, ◌+◌, ◌*◌, ◌<◌}
use lib.Dec.{ltb}
use Rattle.words.specs.Array.{bit_at}
use Rattle.words.specs.Word.{bit}
use Rattle.words.proofs.WordLaws.{bit-both}
use Rattle.cic_record.specs.declared.Cic.{Cic}
use Rattle.cic_registers.specs.declared.layout.Register.{Register}
use Rattle.cic_registers.specs.declared.layout.Register.TheVariants.{Nothing, Revision, GlobalEnable, StatusIndexSet, StatusIndexClear, EnableIndexSet, EnableIndexClear, HostIndexSet, HostIndexClear, RawSet, EnabledClear, EnableSet, EnableClear, ChannelMap, HostMap, HostEnable}
use Rattle.cic_registers.specs.Bits.{word_read}
use Rattle.cic_registers.specs.Registers.{value_of, written_to}
use Rattle.cic_registers.specs.Promises.{SameOutside, Promises}
use Rattle.cic_registers.proofs.BitsLaws.{read-bit, set_bits, clear_bits, replace_bits, set_no-other, clear_no-other, replace_no-other, same_lengths, read_word, put_word}

enabled-reads : (c : Cic) (k j : ℕ) → j < 32
    → bit (value_of c (EnabledClear k)) j ≡ ((bit_at c.status (32 * k + j) && ltb (32 * k + j) c.systems) && (bit_at c.enable (32 * k + j) && ltb (32 * k + j) c.systems))
unfolding value_of
enabled-reads c k j l =
    bit-both (word_read c.systems c.status k) (word_read c.systems c.enable k) j l
    ∙ ap₂ (λ (a b : Bool). a && b) (read-bit c.systems c.status k j l) (read-bit c.systems c.enable k j l)

writes-keep : (c : Cic) (r : Register) (v : ℕ) → SameOutside c (written_to c r v)
unfolding written_to
writes-keep c Nothing v = record { systems = refl; channels = refl; hosts = refl; revision = refl; lines = refl }
writes-keep c Revision v = record { systems = refl; channels = refl; hosts = refl; revision = refl; lines = refl }
writes-keep c GlobalEnable v = record { systems = refl; channels = refl; hosts = refl; revision = refl; lines = refl }
writes-keep c StatusIndexSet v = record { systems = refl; channels = refl; hosts = refl; revision = refl; lines = refl }
writes-keep c StatusIndexClear v = record { systems = refl; channels = refl; hosts = refl; revision = refl; lines = refl }
writes-keep c EnableIndexSet v = record { systems = refl; channels = refl; hosts = refl; revision = refl; lines = refl }
writes-keep c EnableIndexClear v = record { systems = refl; channels = refl; hosts = refl; revision = refl; lines = refl }
writes-keep c HostIndexSet v = record { systems = refl; channels = refl; hosts = refl; revision = refl; lines = refl }
writes-keep c HostIndexClear v = record { systems = refl; channels = refl; hosts = refl; revision = refl; lines = refl }
writes-keep c (RawSet k) v = record { systems = refl; channels = refl; hosts = refl; revision = refl; lines = refl }
writes-keep c (EnabledClear k) v = record { systems = refl; channels = refl; hosts = refl; revision = refl; lines = refl }
writes-keep c (EnableSet k) v = record { systems = refl; channels = refl; hosts = refl; revision = refl; lines = refl }
writes-keep c (EnableClear k) v = record { systems = refl; channels = refl; hosts = refl; revision = refl; lines = refl }
writes-keep c (ChannelMap k) v = record { systems = refl; channels = refl; hosts = refl; revision = refl; lines = refl }
writes-keep c (HostMap k) v = record { systems = refl; channels = refl; hosts = refl; revision = refl; lines = refl }
writes-keep c (HostEnable k) v = record { systems = refl; channels = refl; hosts = refl; revision = refl; lines = refl }

pub kept : Promises
unfolding value_of
kept =
    record {
      reads = read-bit;
      sets = set_bits;
      clears = clear_bits;
      replaces = replace_bits;
      sets_no_other = set_no-other;
      clears_no_other = clear_no-other;
      replaces_no_other = replace_no-other;
      lengths = same_lengths;
      reads_word = read_word;
      puts_word = put_word;
      raw_reads = λ c k j l. read-bit c.systems c.status k j l;
      enabled_reads = enabled-reads;
      enables_read = λ c k j l. read-bit c.systems c.enable k j l;
      enables_alike = λ c k. refl;
      hosts_read = λ c k j l. read-bit c.hosts c.allow k j l;
      writes_keep = writes-keep;
    }
