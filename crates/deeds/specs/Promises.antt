-- What is promised of the words for what a step did: each is said exactly if the step does that, and says what the records before and after it hold.
use Rattle.std.specs.Prelude.{ℕ, ◌-◌, ◌<◌, ◌≤◌, ◌≡◌, true, false, List, [], ◌++◌, ◌↔◌, ◌≢◌, ◌⊎◌}
use Rattle.words.specs.Counting.{count_below, lowest_below}
use Rattle.text.specs.Phrases.{bytes, counted}
use Rattle.steps.specs.declared.Step.{Step}
use Rattle.steps.specs.declared.Step.TheVariants.{Write}
use Rattle.aic_record.specs.declared.Aic.{Aic}
use Rattle.aic_record.specs.declared.Seen.{Seen}
use Rattle.aic_record.specs.Last.{last_source, last_level}
use Rattle.aic_record.specs.Sound.{sound}
use Rattle.aic_record.specs.Promises.{Shaped}
use Rattle.aic.specs.Model.{step}
use Rattle.aic_runs.specs.Counted.{starts, started_by, level_of, starts_of, closes}
use Rattle.cic_record.specs.declared.Cic.{Cic}
use Rattle.cic_record.specs.Kinds.{host_number}
use Rattle.cic_registers.specs.Hosts.{asserted}
use Rattle.aintc_record.specs.declared.Chosen.{Chosen}
use Rattle.machine.specs.declared.record.Machine.{Machine}
use Rattle.machine.specs.Shown.{shown}
use Rattle.deeds.specs.Deeds.{entry_words, seen_words, gains, gain_words, cic_deeds, choice_words, aintc_deeds, side_words}

-- what is said of the input that is chosen for an output, b, after a, and of the output that is free
abbrev pub ChoiceTold : List ℕ → List ℕ → Chosen → Chosen → ℕ → Type 0
ChoiceTold w f a b n =
    ((choice_words w f a b ≡ counted (bytes "; chooses input ") n ++ w) ↔ ((b.active ≡ true) × (b.number ≡ n) × ((a.active ≡ false) ⊎ (a.number ≢ n))))
    × ((choice_words w f a b ≡ f) ↔ ((a.active ≡ true) × (b.active ≡ false)))

pub record Promises : Type 0 where
  -- ---- the AIC

  -- what is said of entries is what the step does, from a sound record: each text exactly if the step counts as such (crates/aic_runs/specs/Counted.antt)

  -- a handler of source i is started, at level l (01, AIC, Normal side; 02, 9/12)
  pub starts_told : (s : Aic) (x : Step) (i l : ℕ) → Shaped s → sound s ≡ true → i < 32 → l < 8
      → (entry_words s x (step s x).aic ≡ counted (bytes "; starts source ") i ++ counted (bytes " at level ") l) ↔ ((starts_of i s x ≡ true) × (level_of s x ≡ l))
  -- a start of no source opens a mark (02, 3/12)
  pub marks_told : (s : Aic) (x : Step) → Shaped s → sound s ≡ true
      → (entry_words s x (step s x).aic ≡ bytes "; opens a mark") ↔ ((starts s x ≡ true) × (32 ≤ started_by s x))
  -- a close that finds a handler of source i last, and one that finds a mark (02, 3/12; 003, 27.8.15)
  pub closes_told : (s : Aic) (x : Step) (i : ℕ) → Shaped s → sound s ≡ true → 0 < i → i < 32
      → (entry_words s x (step s x).aic ≡ counted (bytes "; closes source ") i) ↔ ((closes s x ≡ true) × (last_source s ≡ i))
  pub closes_mark_told : (s : Aic) (x : Step) → Shaped s → sound s ≡ true
      → (entry_words s x (step s x).aic ≡ bytes "; closes a mark") ↔ ((closes s x ≡ true) × (last_source s ≡ 0))
  -- a write of EOICR that finds no entry open (003, 27.8.15)
  pub nothing_told : (s : Aic) (x : Step) → Shaped s → sound s ≡ true
      → (entry_words s x (step s x).aic ≡ bytes "; nothing open") ↔ ((v : ℕ) × (x ≡ Write 0x130 v) × (s.depth ≡ 0))
  -- what is remembered after a step, source i, that there was none, or nothing any more, and was not before it (02, 9/12)
  pub remembers_told : (a b : Seen) (i : ℕ) → b.source < 32 → i < 32
      → (seen_words a b ≡ counted (bytes "; remembers source ") i) ↔ ((a ≢ b) × (b.what ≡ 1) × (b.source ≡ i))
  pub none_told : (a b : Seen) → b.what ≤ 2 → (seen_words a b ≡ bytes "; remembers no source") ↔ ((a ≢ b) × (b.what ≡ 2))
  pub forgets_told : (a b : Seen) → (seen_words a b ≡ bytes "; forgets") ↔ ((a ≢ b) × (b.what ≡ 0))
  -- one entry more: the handler that is last now, of a source from 1 to 31, at the level of its entry (01, AIC, Normal side)
  pub starts : (s : Aic) (x : Step) (t : Aic) → s.depth < t.depth → last_source t ≢ 0 → last_source t < 32 → last_level t < 8
      → entry_words s x t ≡ counted (bytes "; starts source ") (last_source t) ++ counted (bytes " at level ") (last_level t)
  -- or a mark, which is of source 0 (02, 3/12)
  pub marks : (s : Aic) (x : Step) (t : Aic) → s.depth < t.depth → last_source t ≡ 0 → entry_words s x t ≡ bytes "; opens a mark"
  -- one entry less: the one that was last before (02, 3/12)
  pub closes : (s : Aic) (x : Step) (t : Aic) → t.depth < s.depth → last_source s ≢ 0 → last_source s < 32
      → entry_words s x t ≡ counted (bytes "; closes source ") (last_source s)
  pub closes_mark : (s : Aic) (x : Step) (t : Aic) → t.depth < s.depth → last_source s ≡ 0 → entry_words s x t ≡ bytes "; closes a mark"
  -- a write of EOICR with no entry open, before or after (003, 27.8.15)
  pub nothing_open : (s : Aic) (v : ℕ) (t : Aic) → s.depth ≡ 0 → t.depth ≡ 0 → entry_words s (Write 0x130 v) t ≡ bytes "; nothing open"
  -- what is remembered: nothing is said where it is the same (02, 9/12)
  pub same_seen : (a : Seen) → seen_words a a ≡ []
  pub forgets : (a b : Seen) → a.what ≢ 0 → b.what ≡ 0 → seen_words a b ≡ bytes "; forgets"
  pub remembers : (a b : Seen) → a.what ≢ 1 → b.what ≡ 1 → b.source < 32 → seen_words a b ≡ counted (bytes "; remembers source ") b.source
  pub remembers_none : (a b : Seen) → a.what ≢ 2 → b.what ≡ 2 → seen_words a b ≡ bytes "; remembers no source"
  -- ---- the CIC

  -- a host is gained exactly if it is asserted after and was not before; one that ended is gained the other way round (01, CIC, outputs)
  pub gained : (c d : Cic) (h : ℕ) → (gains c d h ≡ true) ↔ ((asserted d (host_number h) ≡ true) × (asserted c (host_number h) ≡ false))
  -- nothing is said exactly if no host is; else the lowest that is, is told (01, CIC, outputs)
  pub none_gained : (c d : Cic) → (gain_words (bytes "; asserts host ") c d ≡ []) ↔ ((h : ℕ) → h < 256 → gains c d h ≡ false)
  pub none_ended : (c d : Cic) → (gain_words (bytes "; ends host ") c d ≡ []) ↔ ((h : ℕ) → h < 256 → gains c d h ≡ false)
  pub lowest_gained : (c d : Cic) → count_below 256 (gains c d) ≢ 0
      → (gains c d (lowest_below 256 (gains c d)) ≡ true) × ((h : ℕ) → h < lowest_below 256 (gains c d) → gains c d h ≡ false)
  -- those that became asserted are told first, then those that are no longer
  pub hosts : (c d : Cic) → cic_deeds c d ≡ gain_words (bytes "; asserts host ") c d ++ gain_words (bytes "; ends host ") d c
  -- of several the lowest is told, and how many more
  pub none : (what : List ℕ) (c d : Cic) → count_below 256 (gains c d) ≡ 0 → gain_words what c d ≡ []
  pub single : (what : List ℕ) (c d : Cic) → count_below 256 (gains c d) ≡ 1 → gain_words what c d ≡ counted what (lowest_below 256 (gains c d)) ++ []
  pub several : (what : List ℕ) (c d : Cic) → 1 < count_below 256 (gains c d)
      → gain_words what c d ≡ counted what (lowest_below 256 (gains c d)) ++ (counted (bytes " and ") (count_below 256 (gains c d) - 1) ++ bytes " more")
  -- ---- the AINTC

  -- an input that is chosen now and was not, none or another being chosen before (000, 4.3.1.2)
  pub chooses : (w f : List ℕ) (a b : Chosen) → b.active ≡ true → a.active ≡ false → b.number < 128
      → choice_words w f a b ≡ counted (bytes "; chooses input ") b.number ++ w
  pub chooses_other : (w f : List ℕ) (a b : Chosen) → b.active ≡ true → a.number ≢ b.number → b.number < 128
      → choice_words w f a b ≡ counted (bytes "; chooses input ") b.number ++ w
  pub frees : (w f : List ℕ) (a b : Chosen) → b.active ≡ false → a.active ≡ true → choice_words w f a b ≡ f
  pub keeps : (w f : List ℕ) (a b : Chosen) → b.active ≡ true → a.active ≡ true → a.number ≡ b.number → choice_words w f a b ≡ []
  pub stays : (w f : List ℕ) (a b : Chosen) → b.active ≡ false → a.active ≡ false → choice_words w f a b ≡ []
  -- so input n is told to be chosen exactly if it is chosen now and was not, and the output to be freed exactly if it is free now and was not
  pub irq_told : (a b : Chosen) (n : ℕ) → b.number < 128 → n < 128 → ChoiceTold (bytes " for IRQ") (bytes "; frees IRQ") a b n
  pub fiq_told : (a b : Chosen) (n : ℕ) → b.number < 128 → n < 128 → ChoiceTold (bytes " for FIQ") (bytes "; frees FIQ") a b n
  -- of IRQ first, then of FIQ
  pub inputs : (i f j g : Chosen)
      → aintc_deeds i f j g ≡ choice_words (bytes " for IRQ") (bytes "; frees IRQ") i j ++ choice_words (bytes " for FIQ") (bytes "; frees FIQ") f g
  -- ---- outputs: those of which the column of a listing changed (01, House trace)

  pub unchanged : (m a : Machine) → (shown m).first ≡ (shown a).first → (shown m).second ≡ (shown a).second → side_words m a ≡ []
  pub irq_active : (m a : Machine) → (shown m).first ≡ 0 → (shown a).first ≡ 1 → (shown m).second ≡ (shown a).second → side_words m a ≡ bytes "; IRQ active"
  pub irq_inactive : (m a : Machine) → (shown m).first ≡ 1 → (shown a).first ≡ 0 → (shown m).second ≡ (shown a).second → side_words m a ≡ bytes "; IRQ inactive"
  pub fiq_active : (m a : Machine) → (shown m).first ≡ (shown a).first → (shown m).second ≡ 0 → (shown a).second ≡ 1 → side_words m a ≡ bytes "; FIQ active"
  pub fiq_inactive : (m a : Machine) → (shown m).first ≡ (shown a).first → (shown m).second ≡ 1 → (shown a).second ≡ 0 → side_words m a ≡ bytes "; FIQ inactive"
