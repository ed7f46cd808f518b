-- What is promised of what is held: the configuration, the start, which records are sound, words as they are held, and what ends holds.
use Rattle.std.specs.Prelude.{true, false, List, ◌↔◌, ◌≢◌, ◌⊎◌, ◌≡◌, ℕ, ◌+◌, ◌/◌, ◌%◌, ◌<◌, get_or, replicate}
use Rattle.words.specs.Word.{bit}
use Rattle.cic_record.specs.declared.Cic.{Cic}
use Rattle.cic_record.specs.Promises.{InRange}
use Rattle.cic_record.specs.Sound as cic
use Rattle.cic_record.specs.Start.{fresh}
use Rattle.cic_held.specs.declared.Begun.{Begun}
use Rattle.cic_held.specs.declared.Held.{Held}
use Rattle.cic_held.specs.declared.Prioritised.{Prioritised}
use Rattle.cic_held.specs.Held.{prioritised, begun, nothing_held, with_global, with_hosts, held_as, word_held, within, sound, start, freed_hosts, controlled}

-- what is held, part by part
abbrev pub Holds : Held → ℕ → ℕ → ℕ → List ℕ → Type 0
Holds h choice hold global host = (h.choice ≡ choice) × (h.hold ≡ hold) × (h.global ≡ global) × (h.host ≡ host)

-- what a start answers, part by part: its refusal, the CIC, whether prioritisation is chosen, and whether reads of an index hold it; nothing is held yet
abbrev pub Starts : Begun → ℕ → Cic → ℕ → ℕ → Type 0
Starts b refusal c choice hold =
    (b.refusal ≡ refusal) × (b.prioritised.cic ≡ c) × Holds b.prioritised.held choice hold 0 (replicate 256 0)

-- the five configuration numbers may be these: any revision, the choice 0 or 1 (02, 6/12)
abbrev pub Configured : ℕ → ℕ → ℕ → ℕ → Type 0
Configured systems channels hosts choice = InRange systems channels hosts × ((choice ≡ 0) ⊎ (choice ≡ 1))

-- an index is held as x: as none, by 1, or as a configured system interrupt, by its number and 2 (02, 6/12)
abbrev pub HeldAsOne : Cic → ℕ → Type 0
HeldAsOne c x = (x ≡ 1) ⊎ ((s : ℕ) × (s < c.systems) × (x ≡ s + 2))

-- the rules of a sound record, one by one (02, 6/12)
pub record Rules (p : Prioritised) : Type 0 where
  -- the CIC's own record is sound
  pub cic : cic.sound p.cic ≡ true
  -- the choice is off or on; the hold mode is off or on, and on only where the choice is (001, 2.2.2)
  pub choice : (p.held.choice ≡ 0) ⊎ (p.held.choice ≡ 1)
  pub hold : (p.held.hold ≡ 0) ⊎ ((p.held.hold ≡ 1) × (p.held.choice ≡ 1))
  -- nothing is held for the global index, or none or a configured system interrupt is in the mode
  pub global : (p.held.global ≡ 0) ⊎ ((p.held.hold ≡ 1) × HeldAsOne p.cic p.held.global)
  -- the same of each host's, and nothing beyond the configured hosts
  pub hosts : (h : ℕ) → h < 256 → (get_or p.held.host h 0 ≡ 0)
      ⊎ ((h < p.cic.hosts) × ((p.held.hold ≡ 1) × HeldAsOne p.cic (get_or p.held.host h 0)))

pub record Promises : Type 0 where
  -- ---- configuration and start
  -- five configuration numbers: the CIC's four, and the choice, 0 or 1 (02, 6/12)
  pub configuration : (nth value : ℕ) → (within nth value ≡ true)
      ↔ (((nth ≡ 4) × ((value ≡ 0) ⊎ (value ≡ 1))) ⊎ ((nth ≢ 4) × (cic.within nth value ≡ true)))
  -- a start is carried out exactly if each number is within its limits (02, 6/12)
  pub start_taken : (systems channels hosts revision choice : ℕ)
      → ((start systems channels hosts revision choice).refusal ≡ 0) ↔ Configured systems channels hosts choice
  -- it is the CIC's start with nothing held; the hold mode is on where the choice is (001, figure 2-2)
  pub start_is : (systems channels hosts revision choice : ℕ) → Configured systems channels hosts choice
      → Starts (start systems channels hosts revision choice) 0 (fresh systems channels hosts revision) choice choice
  -- else it answers 10 and a record of zeros (02, 6/12; 01, Numbers)
  pub start_refused : (systems channels hosts revision choice : ℕ) → (Configured systems channels hosts choice → ⊥)
      → Starts (start systems channels hosts revision choice) 10 (fresh 0 0 0 0) 0 0
  -- a record that a start hands out is sound (02, 6/12)
  pub start_sound : (systems channels hosts revision choice : ℕ) → Configured systems channels hosts choice
      → sound (start systems channels hosts revision choice).prioritised ≡ true
  -- ---- which records are sound
  -- a record is sound exactly if it keeps each rule (02, 6/12)
  pub sound_is : (p : Prioritised) → (sound p ≡ true) ↔ Rules p
  -- ---- words as they are held
  -- the word of none is held as 1, the number of a system interrupt as 2 more; nothing is held as 0 (02, 6/12)
  pub none_held : held_as 0x80000000 ≡ 1
  pub system_held : (s : ℕ) → s < 1024 → held_as s ≡ s + 2
  -- and each word is told back as it was (001, 1.3.5)
  pub told_back : (word : ℕ) → word_held (held_as word) ≡ word
  pub held_back : (x : ℕ) → x ≢ 0 → x < 65536 → held_as (word_held x) ≡ x
  -- ---- what ends holds
  -- word k of the hosts, written with v, ends the holds of those whose bit is 1, and no other (001, 1.3.5)
  pub freed_ends : (k v : ℕ) (host : List ℕ) (h : ℕ) → h / 32 ≡ k → bit v (h % 32) ≡ true → get_or (freed_hosts k v host) h 0 ≡ 0
  pub freed_stays : (k v : ℕ) (host : List ℕ) (h : ℕ) → ((h / 32 ≡ k) × (bit v (h % 32) ≡ true) → ⊥) → get_or (freed_hosts k v host) h 0 ≡ get_or host h 0
  -- bit 4 of control is the mode: turned off, or on, nothing is held; left on, nothing changes (001, 2.2.2)
  pub control_off : (h : Held) (v : ℕ) → bit v 4 ≡ false → Holds (controlled h v) h.choice 0 0 (replicate 256 0)
  pub control_on : (h : Held) (v : ℕ) → bit v 4 ≡ true → h.hold ≢ 1 → Holds (controlled h v) h.choice 1 0 (replicate 256 0)
  pub control_stays : (h : Held) (v : ℕ) → bit v 4 ≡ true → h.hold ≡ 1 → controlled h v ≡ h
  -- ---- the parts of the record
  pub joined : (c : Cic) (h : Held) → ((prioritised c h).cic ≡ c) × ((prioritised c h).held ≡ h)
  pub begun_is : (n : ℕ) (p : Prioritised) → ((begun n p).refusal ≡ n) × ((begun n p).prioritised ≡ p)
  pub nothing_is : (choice hold : ℕ) → Holds (nothing_held choice hold) choice hold 0 (replicate 256 0)
  pub global_put : (h : Held) (x : ℕ) → Holds (with_global h x) h.choice h.hold x h.host
  pub hosts_put : (h : Held) (xs : List ℕ) → Holds (with_hosts h xs) h.choice h.hold h.global xs
