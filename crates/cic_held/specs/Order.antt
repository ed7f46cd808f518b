-- Which system interrupt a prioritised index names: the lowest channel that has one, and in that channel the lowest number (001, 1.3.5;
-- for a host of several channels D22).
use Rattle.std.specs.Prelude.{Bool, ◌&&◌, ◌||◌, ℕ, eqb, ltb}
use Rattle.words.specs.Array.{bit_at}
use Rattle.words.specs.Choice.{pick}
use Rattle.words.specs.Counting.{any_below, lowest_below}
use Rattle.cic_record.specs.declared.Channel.{Channel}
use Rattle.cic_record.specs.declared.Cic.{Cic}
use Rattle.cic_record.specs.declared.Host.{Host}
use Rattle.cic_record.specs.declared.System.{System}
use Rattle.cic_record.specs.Kinds.{system, channel_number, channel_of, host_of}

-- the word of an index that names none: bit 31 is set, the field of the number is 0 (001, 2.2.10 and 2.2.17)
abbrev pub none_word : ℕ
none_word = 0x80000000

-- system interrupt s is set and enabled, and its channel is k; neither global nor host enables are asked (001, 1.3.2 and table 1-2)
unfoldable pub pending_in : Cic → Channel → System → Bool
pending_in c k s = bit_at c.status s.0 && (bit_at c.enable s.0 && eqb (channel_of c s).0 k.0)

-- channel k has one (001, 1.3.5)
unfoldable pub busy : Cic → Channel → Bool
busy c k = any_below c.systems (λ s. pending_in c k (system s))

-- the lowest of channel k, the number of systems where it has none (001, 1.3.5)
unfoldable pub first_in : Cic → Channel → ℕ
first_in c k = lowest_below c.systems (λ s. pending_in c k (system s))

-- the lowest channel that passes a test and has one, the number of channels where there is none (001, 1.3.5; D22)
unfoldable pub channel_first : Cic → (Channel → Bool) → ℕ
channel_first c t = lowest_below c.channels (λ k. t (channel_number k) && busy c (channel_number k))

-- the index over the channels that pass a test (001, 1.3.5; D22)
unfoldable pub index_over : Cic → (Channel → Bool) → ℕ
index_over c t = pick (ltb (channel_first c t) c.channels) (first_in c (channel_number (channel_first c t))) none_word

-- every channel, or those that are mapped to host h (001, 2.2.10 and 2.2.17)
abbrev pub leads : Cic → Bool → Host → Channel → Bool
leads c every h k = every || eqb (host_of c k).0 h.0

-- the global index is over every channel (001, 2.2.10), that of a host over those mapped to it (001, 2.2.17)
unfoldable pub index_of : Cic → Bool → Host → ℕ
index_of c every h = index_over c (leads c every h)

-- system interrupt a comes before b: its channel is lower, or it is the same and its number is lower (001, 1.3.5)
unfoldable pub comes_before : Cic → System → System → Bool
comes_before c a b = ltb (channel_of c a).0 (channel_of c b).0 || (eqb (channel_of c a).0 (channel_of c b).0 && ltb a.0 b.0)
