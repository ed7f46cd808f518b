-- The three kinds of number: a system interrupt, a channel and a host interrupt count three separate things (01, CIC).
use Rattle.std.specs.Prelude.{List, ℕ, get_or}
use Rattle.cic_record.specs.declared.Channel.{Channel}
use Rattle.cic_record.specs.declared.Cic.{Cic}
use Rattle.cic_record.specs.declared.Host.{Host}
use Rattle.cic_record.specs.declared.System.{System}

-- system interrupt number n
abbrev pub system : ℕ → System
system n = record { 0 = n }

-- channel number n
abbrev pub channel_number : ℕ → Channel
channel_number n = record { 0 = n }

-- host interrupt number n
abbrev pub host_number : ℕ → Host
host_number n = record { 0 = n }

-- the channel of a system interrupt in a channel map (001, 1.3.3)
abbrev pub channel_in : List ℕ → System → Channel
channel_in channel s = channel_number (get_or channel s.0 0)

-- the host interrupt that a channel is mapped to in a host map (001, 1.3.4)
abbrev pub host_in : List ℕ → Channel → Host
host_in host k = host_number (get_or host k.0 0)

-- the same in the maps of a record
abbrev pub channel_of : Cic → System → Channel
channel_of c s = channel_in c.channel s

abbrev pub host_of : Cic → Channel → Host
host_of c k = host_in c.host k
