-- What is promised of an index that is not held, of the order, of the words in which both are told, and of how many words are looked at.
use Rattle.std.specs.Prelude.{Bool, true, false, ◌↔◌, ◌≢◌, ◌⊎◌, ◌≡◌, ℕ, ◌+◌, ◌*◌, ◌/◌, ◌%◌, ◌<◌, ◌≤◌, get_or}
use Rattle.words.specs.Array.{bit_at}
use Rattle.words.specs.Counting.{count_below}
use Rattle.words.specs.Word.{bit}
use Rattle.cic_record.specs.declared.Channel.{Channel}
use Rattle.cic_record.specs.declared.Cic.{Cic}
use Rattle.cic_record.specs.declared.Host.{Host}
use Rattle.cic_record.specs.declared.System.{System}
use Rattle.cic_record.specs.Kinds.{system, channel_number, host_number, channel_of, host_of}
use Rattle.cic_record.specs.Sound.{sound}
use Rattle.cic_held.specs.Example.{example}
use Rattle.cic_held.specs.Looked.{word_has, looked_in, found_in, searched, looked_over, found_over}
use Rattle.cic_held.specs.Order.{none_word, pending_in, busy, first_in, channel_first, leads, index_of, comes_before}
use Rattle.cic_held.specs.Search.{found_of}

-- system interrupt s meets the conditions of the global index: it is configured, set and enabled; no host and no global enable is asked (001, 1.3.2 and 2.2.10)
abbrev pub Meets : Cic → ℕ → Type 0
Meets c s = (s < c.systems) × (bit_at c.status s ≡ true) × (bit_at c.enable s ≡ true)

-- it meets those of host h's index: its channel is mapped to h besides (001, 2.2.17)
abbrev pub MeetsFor : Cic → Host → ℕ → Type 0
MeetsFor c h s = Meets c s × ((host_of c (channel_of c (system s))).0 ≡ h.0)

pub record Promises : Type 0 where
  -- ---- the global index
  -- it names none exactly if no system interrupt meets its conditions, and one exactly if there is one that does (02, 6/12; 001, 2.2.10)
  pub global_none : (c : Cic) (h : Host) → sound c ≡ true → (index_of c true h ≡ none_word) ↔ ((s : ℕ) → Meets c s → ⊥)
  pub global_some : (c : Cic) (h : Host) → sound c ≡ true → (index_of c true h ≢ none_word) ↔ ((s : ℕ) × Meets c s)
  -- the word is then the number of one that meets them, and no other that does comes before it (02, 6/12; 001, 1.3.5)
  pub global_names : (c : Cic) (h : Host) → sound c ≡ true → index_of c true h ≢ none_word → Meets c (index_of c true h)
  pub global_first : (c : Cic) (h : Host) → sound c ≡ true → index_of c true h ≢ none_word → (s : ℕ) → Meets c s
      → comes_before c (system s) (system (index_of c true h)) ≡ false
  -- ---- the index of host h: the same over the channels mapped to it (02, 6/12; 001, 2.2.17 and 1.3.5; over several channels D22)
  pub host_none : (c : Cic) (h : Host) → sound c ≡ true → (index_of c false h ≡ none_word) ↔ ((s : ℕ) → MeetsFor c h s → ⊥)
  pub host_some : (c : Cic) (h : Host) → sound c ≡ true → (index_of c false h ≢ none_word) ↔ ((s : ℕ) × MeetsFor c h s)
  pub host_names : (c : Cic) (h : Host) → sound c ≡ true → index_of c false h ≢ none_word → MeetsFor c h (index_of c false h)
  pub host_first : (c : Cic) (h : Host) → sound c ≡ true → index_of c false h ≢ none_word → (s : ℕ) → MeetsFor c h s
      → comes_before c (system s) (system (index_of c false h)) ≡ false
  -- ---- the order
  -- one comes before another exactly if its channel is lower, or the channel is the same and its number is lower (001, 1.3.5)
  pub before_is : (c : Cic) (a b : System) → (comes_before c a b ≡ true)
      ↔ (((channel_of c a).0 < (channel_of c b).0) ⊎ (((channel_of c a).0 ≡ (channel_of c b).0) × (a.0 < b.0)))
  -- so none comes before itself, what comes before one that comes before a third comes before the third, and of any two one comes before the other
  pub before_not_self : (c : Cic) (a : System) → comes_before c a a ≡ false
  pub before_third : (c : Cic) (a b d : System) → comes_before c a b ≡ true → comes_before c b d ≡ true → comes_before c a d ≡ true
  pub before_either : (c : Cic) (a b : System) → a.0 ≢ b.0 → (comes_before c a b ≡ true) ⊎ (comes_before c b a ≡ true)
  -- ---- words
  -- the word of none has bit 31 and no other (001, 2.2.10 and 2.2.17)
  pub none_is : (j : ℕ) → (bit none_word j ≡ true) ↔ (j ≡ 31)
  -- a system interrupt is pending in channel k exactly if its bits of status and enable are set and its byte of the channel map is k (001, 1.3.2 and 1.3.3)
  pub pending_is : (c : Cic) (k : Channel) (s : System) → (pending_in c k s ≡ true)
      ↔ ((bit (get_or c.status (s.0 / 32) 0) (s.0 % 32) ≡ true) × (bit (get_or c.enable (s.0 / 32) 0) (s.0 % 32) ≡ true)
      × (get_or c.channel s.0 0 ≡ k.0))
  -- ---- how many status words a search for one channel looks at (02, 10/12)
  -- no more than the number of systems divided by 32, rounded up
  pub looked_most : (c : Cic) (k : Channel) → looked_in c k ≤ (c.systems + 31) / 32
  -- every word before the last one looked at has none of the channel
  pub looked_before : (c : Cic) (k : Channel) (j : ℕ) → j + 1 < looked_in c k → word_has c k j ≡ false
  -- and it stops before all of them only where the last one has one
  pub looked_last : (c : Cic) (k : Channel) (j : ℕ) → looked_in c k ≡ j + 1 → looked_in c k < (c.systems + 31) / 32 → word_has c k j ≡ true
  -- some word is looked at exactly if there are systems
  pub looked_some : (c : Cic) (k : Channel) → (0 < looked_in c k) ↔ (0 < c.systems)
  -- a word has one exactly if a bit of it below the systems is set in status and in enable, and the byte of the channel map is the channel (001, 1.3.2 and 1.3.3)
  pub has_is : (c : Cic) (k : Channel) (j : ℕ) → (word_has c k j ≡ true)
      ↔ ((i : ℕ) × (i < 32) × (32 * j + i < c.systems) × (bit (get_or c.status j 0) i ≡ true) × (bit (get_or c.enable j 0) i ≡ true)
      × (get_or c.channel (32 * j + i) 0 ≡ k.0))
  -- so it is told by what is found: up to the word of the lowest one, or all words where there is none
  pub looked_found : (c : Cic) (k : Channel) → first_in c k < c.systems → looked_in c k ≡ first_in c k / 32 + 1
  pub looked_none : (c : Cic) (k : Channel) → c.systems ≤ first_in c k → looked_in c k ≡ (c.systems + 31) / 32
  -- searches for one channel in records that have the same systems, status, enables and channel map count alike
  pub looked_alike : (c d : Cic) (k : Channel) → c.systems ≡ d.systems → c.status ≡ d.status → c.enable ≡ d.enable → c.channel ≡ d.channel
      → looked_in c k ≡ looked_in d k
  -- the search on the parts of a record answers the lowest one, and the words looked at
  pub search_is : (c : Cic) (k : Channel) → found_of c.systems c.status c.enable c.channel k ≡ found_in c k
  pub found_is : (c : Cic) (k : Channel) → ((found_in c k).index ≡ first_in c k) × ((found_in c k).words ≡ looked_in c k)
  -- ---- how many status words the read of an index that is not held looks at, over all its channels (02, 10/12)
  -- the global index is over every channel, that of a host over those whose byte of the host map is the host (001, 2.2.10 and 2.2.17)
  pub leads_every : (c : Cic) (h : Host) (k : Channel) → leads c true h k ≡ true
  pub leads_host : (c : Cic) (h : Host) (k : Channel) → (leads c false h k ≡ true) ↔ (get_or c.host k.0 0 ≡ h.0)
  -- the channels have their turn in order, up to and including the first that the index is over and that has one, or all of them (001, 1.3.5)
  pub searched_most : (c : Cic) (t : Channel → Bool) → searched c t ≤ c.channels
  pub searched_before : (c : Cic) (t : Channel → Bool) (k : ℕ) → k + 1 < searched c t → t (channel_number k) ≡ true → busy c (channel_number k) ≡ false
  pub searched_last : (c : Cic) (t : Channel → Bool) (k : ℕ) → searched c t ≡ k + 1 → searched c t < c.channels
      → (t (channel_number k) ≡ true) × (busy c (channel_number k) ≡ true)
  -- a channel has one exactly if a configured system interrupt is pending in it (001, 1.3.5)
  pub busy_is : (c : Cic) (k : Channel) → (busy c k ≡ true) ↔ ((s : ℕ) × (s < c.systems) × (pending_in c k (system s) ≡ true))
  -- the words are at most those of one search for each channel of these that the index is over
  pub over_most : (c : Cic) (t : Channel → Bool) → looked_over c t ≤ count_below (searched c t) (λ k. t (channel_number k)) * ((c.systems + 31) / 32)
  -- they are told by what is found: all words for each channel before that the index is over, and in the last up to the word of the one that it names
  pub over_found : (c : Cic) (t : Channel → Bool) → channel_first c t < c.channels
      → looked_over c t
      ≡ count_below (channel_first c t) (λ k. t (channel_number k)) * ((c.systems + 31) / 32) + (first_in c (channel_number (channel_first c t)) / 32 + 1)
  -- or all words for each channel that the index is over, where none has one
  pub over_none : (c : Cic) (t : Channel → Bool) → c.channels ≤ channel_first c t
      → looked_over c t ≡ count_below c.channels (λ k. t (channel_number k)) * ((c.systems + 31) / 32)
  -- such a read answers the word of the index, and how many status words were looked at
  pub over_is : (c : Cic) (every : Bool) (h : Host) → ((found_over c (leads c every h)).index ≡ index_of c every h)
      × ((found_over c (leads c every h)).words ≡ looked_over c (leads c every h))
  -- ---- system interrupt 40 of 96, in word 1 of three, of channel 1, which is mapped to host 1
  -- channel 1 is found in the second word; channel 0 has none in all three
  pub example_found : looked_in example (channel_number 1) ≡ 2
  pub example_none : looked_in example (channel_number 0) ≡ 3
  -- the global index searches both channels, each host's its own
  pub example_global : looked_over example (leads example true (host_number 0)) ≡ 5
  pub example_hosts : (looked_over example (leads example false (host_number 0)) ≡ 3) × (looked_over example (leads example false (host_number 1)) ≡ 2)
