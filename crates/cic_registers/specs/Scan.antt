-- How the hosts are gathered word by word: no document says this; it is proved to be what Hosts.antt says.
use Rattle.std.specs.Prelude.{Bool, ◌&&◌, List, ℕ, ◌+◌, eqb}
use Rattle.words.specs.Word.{bit}
use Rattle.cic_record.specs.Kinds.{system, channel_in, host_in}

-- bit i of w is set, and system interrupt base + i goes to host h
abbrev pub goes : List ℕ → List ℕ → ℕ → ℕ → ℕ → ℕ → Bool
goes channel host base w h i = bit w i && eqb (host_in host (channel_in channel (system (base + i)))).0 h
