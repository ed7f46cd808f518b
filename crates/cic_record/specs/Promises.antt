-- What is promised of the record: its numbers, the start, which records are sound, and each of its parts put anew.
use Rattle.std.specs.Prelude.{true, false, List, ◌↔◌, ◌⊎◌, ◌≡◌, ℕ, ◌+◌, ◌*◌, ◌<◌, ◌≤◌, get_or, length, replicate}
use Rattle.words.specs.Word.{bit}
use Rattle.steps.specs.Refusals.{carried_out, misconfigured}
use Rattle.cic_record.specs.declared.Channel.{Channel}
use Rattle.cic_record.specs.declared.Cic.{Cic}
use Rattle.cic_record.specs.declared.System.{System}
use Rattle.cic_record.specs.Kinds.{system, channel_number, host_number, channel_of, host_of}
use Rattle.cic_record.specs.Record.{with_global, with_lines, with_status, with_enable, with_channel, with_host, with_allow, begun, answered, refused}
use Rattle.cic_record.specs.Sound.{within, sound}
use Rattle.cic_record.specs.Start.{fresh, start}

-- the arrays of a record have the lengths that the language gives them; a list in a definition has any length
abbrev pub Shaped : Cic → Type 0
Shaped c =
    (length c.lines ≡ 32) × (length c.status ≡ 32) × (length c.enable ≡ 32) × (length c.channel ≡ 1024) × (length c.host ≡ 256)
    × (length c.allow ≡ 8)

-- the parts of a record, one by one
abbrev pub Holds : Cic → ℕ → ℕ → ℕ → ℕ → ℕ → List ℕ → List ℕ → List ℕ → List ℕ → List ℕ → List ℕ → Type 0
Holds c systems channels hosts revision global lines status enable channel host allow =
    (c.systems ≡ systems) × (c.channels ≡ channels) × (c.hosts ≡ hosts) × (c.revision ≡ revision) × (c.global ≡ global)
    × (c.lines ≡ lines) × (c.status ≡ status) × (c.enable ≡ enable) × (c.channel ≡ channel) × (c.host ≡ host) × (c.allow ≡ allow)

-- the three counts may be configured (01, CIC, configuration)
abbrev pub InRange : ℕ → ℕ → ℕ → Type 0
InRange systems channels hosts = ((1 ≤ systems) × (systems ≤ 1024)) × (((1 ≤ channels) × (channels ≤ 256)) × ((1 ≤ hosts) × (hosts ≤ 256)))

-- bit j of word k is that of thing 32 * k + j: in the first m words none is set from thing n on
abbrev pub NoneFrom : ℕ → ℕ → List ℕ → Type 0
NoneFrom n m ws = (k j : ℕ) → k < m → n ≤ 32 * k + j → bit (get_or ws k 0) j ≡ false

-- the rules of a sound record, one by one (01, CIC, a sound record)
pub record Rules (c : Cic) : Type 0 where
  -- the counts are in their ranges
  pub counts : InRange c.systems c.channels c.hosts
  -- global enable is 0 or 1
  pub global : (c.global ≡ 0) ⊎ (c.global ≡ 1)
  -- each system interrupt has one of the channels, and each channel one of the hosts
  pub channels : (s : ℕ) → s < c.systems → get_or c.channel s 0 < c.channels
  pub hosts : (k : ℕ) → k < c.channels → get_or c.host k 0 < c.hosts
  -- every map byte beyond the counts is 0
  pub spare_channels : (s : ℕ) → c.systems ≤ s → s < 1024 → get_or c.channel s 0 ≡ 0
  pub spare_hosts : (k : ℕ) → c.channels ≤ k → k < 256 → get_or c.host k 0 ≡ 0
  -- no line, status or enable bit beyond the systems is set, and no host enable beyond the hosts
  pub lines : NoneFrom c.systems 32 c.lines
  pub status : NoneFrom c.systems 32 c.status
  pub enable : NoneFrom c.systems 32 c.enable
  pub allow : NoneFrom c.hosts 8 c.allow

pub record Promises : Type 0 where
  -- four configuration numbers: 1 to 1,024 systems, 1 to 256 channels, 1 to 256 hosts, and any revision (01, CIC, configuration)
  pub configuration : (nth value : ℕ) → (within nth value ≡ true)
      ↔ (((nth ≡ 0) × ((1 ≤ value) × (value ≤ 1024))) ⊎ (((nth ≡ 1) × ((1 ≤ value) × (value ≤ 256))) ⊎ (((nth ≡ 2) × ((1 ≤ value) × (value ≤ 256))) ⊎ (nth ≡ 3))))
  -- a start is carried out exactly if the counts are in their ranges, whatever the revision (01, CIC, configuration)
  pub start_taken : (systems channels hosts revision : ℕ) → ((start systems channels hosts revision).refusal ≡ carried_out) ↔ InRange systems channels hosts
  pub start_is : (systems channels hosts revision : ℕ) → InRange systems channels hosts
      → start systems channels hosts revision ≡ begun carried_out (fresh systems channels hosts revision)
  -- else it answers 10 and a record of zeros (01, Numbers)
  pub start_refused : (systems channels hosts revision : ℕ) → (InRange systems channels hosts → ⊥)
      → start systems channels hosts revision ≡ begun misconfigured (fresh 0 0 0 0)
  -- of such a record the four numbers are given, the lines low and all registers 0 (01, CIC, configuration)
  pub fresh_is : (systems channels hosts revision : ℕ)
      → Holds (fresh systems channels hosts revision) systems channels hosts revision 0
      (replicate 32 0) (replicate 32 0) (replicate 32 0) (replicate 1024 0) (replicate 256 0) (replicate 8 0)
  -- a record that a start hands out is sound, and its arrays have their lengths (01, CIC, a sound record)
  pub start_sound : (systems channels hosts revision : ℕ) → InRange systems channels hosts
      → (sound (start systems channels hosts revision).cic ≡ true) × Shaped (start systems channels hosts revision).cic
  -- a record is sound exactly if it keeps each rule (01, CIC, a sound record)
  pub sound_is : (c : Cic) → (sound c ≡ true) ↔ Rules c
  -- a system interrupt's channel is its byte of the channel map, a channel's host its byte of the host map (001, 1.3.3 and 1.3.4)
  pub channel_is : (c : Cic) (s : System) → (channel_of c s).0 ≡ get_or c.channel s.0 0
  pub host_is : (c : Cic) (k : Channel) → (host_of c k).0 ≡ get_or c.host k.0 0
  -- the three kinds of number (01, CIC)
  pub numbered : (n : ℕ) → ((system n).0 ≡ n) × ((channel_number n).0 ≡ n) × ((host_number n).0 ≡ n)
  -- a record with one part put anew has every other part as it was
  pub global_put : (c : Cic) (x : ℕ)
      → Holds (with_global c x) c.systems c.channels c.hosts c.revision x c.lines c.status c.enable c.channel c.host c.allow
  pub lines_put : (c : Cic) (x : List ℕ)
      → Holds (with_lines c x) c.systems c.channels c.hosts c.revision c.global x c.status c.enable c.channel c.host c.allow
  pub status_put : (c : Cic) (x : List ℕ)
      → Holds (with_status c x) c.systems c.channels c.hosts c.revision c.global c.lines x c.enable c.channel c.host c.allow
  pub enable_put : (c : Cic) (x : List ℕ)
      → Holds (with_enable c x) c.systems c.channels c.hosts c.revision c.global c.lines c.status x c.channel c.host c.allow
  pub channel_put : (c : Cic) (x : List ℕ)
      → Holds (with_channel c x) c.systems c.channels c.hosts c.revision c.global c.lines c.status c.enable x c.host c.allow
  pub host_put : (c : Cic) (x : List ℕ)
      → Holds (with_host c x) c.systems c.channels c.hosts c.revision c.global c.lines c.status c.enable c.channel x c.allow
  pub allow_put : (c : Cic) (x : List ℕ)
      → Holds (with_allow c x) c.systems c.channels c.hosts c.revision c.global c.lines c.status c.enable c.channel c.host x
  -- what a start hands out, what a step answers that is carried out, and one that is refused: the value 0 and the same record (01, Numbers)
  pub begun_is : (n : ℕ) (c : Cic) → ((begun n c).refusal ≡ n) × ((begun n c).cic ≡ c)
  pub answered_is : (c : Cic) (v : ℕ) → ((answered c v).refusal ≡ carried_out) × ((answered c v).value ≡ v) × ((answered c v).cic ≡ c)
  pub refused_is : (c : Cic) (n : ℕ) → ((refused c n).refusal ≡ n) × ((refused c n).value ≡ 0) × ((refused c n).cic ≡ c)
