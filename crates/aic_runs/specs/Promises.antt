-- What is promised of every run of the AT91 controller, sentence by sentence (docs/DEMANDS.md, demand 3).
use Rattle.std.specs.Prelude.{ℕ, ◌+◌, ◌-◌, ◌≤◌, ◌<◌, ◌≡◌, Bool, true, false, not, ◌&&◌, List, [], ◌∷◌, ◌≢◌, ◌⊎◌, set}
use Rattle.words.specs.Choice.{pick}
use Rattle.words.specs.Counting.{one}
use Rattle.words.specs.Word.{with_bit}
use Rattle.steps.specs.declared.Step.{Step}
use Rattle.steps.specs.declared.Step.TheVariants.{Read, Write}
use Rattle.aic_record.specs.declared.Aic.{Aic}
use Rattle.aic_record.specs.Record.{with_memory, with_handlers, with_seen, reset}
use Rattle.aic_record.specs.Mode.{priority, edge}
use Rattle.aic_record.specs.Sound.{source_at, level_at, level_below, protects, sound}
use Rattle.aic_record.specs.Promises.{Shaped}
use Rattle.aic_sources.specs.Fast.{fast}
use Rattle.aic_sources.specs.Normal.{ahead, irq}
use Rattle.aic_registers.specs.Handlers.{started_at, closed_last}
use Rattle.aic.specs.Model.{step}
use Rattle.aic_runs.specs.Counted.{starts, started_by, level_of, recalls, carries, starts_of, starts_other, strays, closes, edges, commands, steady, waits}
use Rattle.aic_runs.specs.Runs.{run, count, always, EachStart, owed, received, sum_over}
use Rattle.aic_runs.specs.Worked.{tower, crowded, outset, wait, stale, stale_wait}
use Rattle.aic_runs.specs.Tables.{Counts, Gathers, Steps}

-- the levels of the open handlers rise strictly and are at most 7, and at most eight entries are open, marks among them (02, 3/12)
pub record Nested (s : Aic) : Type 0 where
  pub rising : (i j : ℕ) → i < j → j < s.depth → source_at s i ≢ 0 → source_at s j ≢ 0 → level_at s i < level_at s j
  pub small : (i : ℕ) → i < s.depth → source_at s i ≢ 0 → level_at s i ≤ 7
  pub eight : s.depth ≤ 8

-- every source that passes the test is edge-triggered
abbrev pub EdgeTriggered : Aic → (ℕ → Bool) → Type 0
EdgeTriggered s t = (i : ℕ) → i < 32 → t i ≡ true → edge s i ≡ true

-- source i is ahead of source k
abbrev pub ahead_of : Aic → ℕ → ℕ → Bool
ahead_of s k i = ahead s i k

-- source i is ahead of source k and not fast: only such a one can be started before k
abbrev pub rival_of : Aic → ℕ → ℕ → Bool
rival_of s k i = ahead s i k && not (fast s i)

pub record Promises : Type 1 where
  -- what is counted, step by step and over a run
  pub counts : (s : Aic) (x : Step) → Counts s x
  pub gathers : Gathers
  -- after any run from reset the open entries are the starts less the closes that found one open, marks counted with handlers, and the closes
  -- are no more than the starts (demand 3, first sentence; 02, 3/12)
  pub entries : (external lines : ℕ) (xs : List Step)
      → ((run (reset external lines) xs).depth ≡ count starts (reset external lines) xs - count closes (reset external lines) xs)
      × (count closes (reset external lines) xs ≤ count starts (reset external lines) xs)
  -- from any record, sound or not: the entries open after a run and its closes are the entries open before it and its starts
  pub balance : (s : Aic) (xs : List Step) → (run s xs).depth + count closes s xs ≡ s.depth + count starts s xs
  -- after any run from reset the levels of the handlers rise strictly and are at most 7, and never more than eight entries are open
  -- (demand 3, first sentence; 02, 3/12)
  pub nested : (external lines : ℕ) (xs : List Step) → Nested (run (reset external lines) xs)
  -- and so it is after any run from a sound record, whose arrays have their lengths
  pub nested_on : (s : Aic) → Shaped s → sound s ≡ true → (xs : List Step) → Nested (run s xs)
  -- eight is reached: a run from reset opens the levels 0 to 7
  pub worked : Steps
  pub eight_open : ((run (reset 0 0) (tower 8)).depth ≡ 8) × ((run (reset 0 0) (tower 8)).level ≡ 0 ∷ 1 ∷ 2 ∷ 3 ∷ 4 ∷ 5 ∷ 6 ∷ 7 ∷ [])
  -- and by marks, none of which has a level: while priority 7 waits over them IRQ is inactive, and a vector read starts nothing and leaves the
  -- record as it is; after one close IRQ is active, and it starts that source (02, 3/12)
  pub eight_marks : (crowded.depth ≡ 8) × (crowded.source ≡ 0 ∷ 0 ∷ 0 ∷ 0 ∷ 0 ∷ 0 ∷ 0 ∷ 0 ∷ [])
      × (crowded.level ≡ 255 ∷ 255 ∷ 255 ∷ 255 ∷ 255 ∷ 255 ∷ 255 ∷ 255 ∷ []) × (waits 1 crowded (Read 0x100) ≡ true) × (priority crowded 1 ≡ 7)
      × (irq crowded ≡ false) × (starts crowded (Read 0x100) ≡ false) × ((step crowded (Read 0x100)).aic ≡ crowded)
      × (irq (run crowded (Write 0x130 0 ∷ [])) ≡ true) × (started_by (run crowded (Write 0x130 0 ∷ [])) (Read 0x100) ≡ 1)
  -- what is counted is what happens: a step that starts the handler of a source is a start, and after it that source is started, at the priority
  -- that it has then, or at the level that was remembered (01, AIC, Normal side; 02, 9/12)
  pub start_is : (s : Aic) (x : Step) → started_by s x < 32
      → (starts s x ≡ true) × ((step s x).aic ≡ with_seen (started_at s (started_by s x) (level_of s x)) (step s x).aic.seen)
  -- a start opens a handler of the source at that level, and clears its memory, and no other, if it is edge-triggered
  pub started_is : (s : Aic) (k p : ℕ) → started_at s k p
      ≡ with_handlers (with_memory s (pick (edge s k) (with_bit s.memory k false) s.memory))
      (set s.source s.depth k) (set s.level s.depth p) (s.depth + 1)
  -- any other start opens a mark: an entry of source 0 with the level of the last entry, or no level if there is none (02, 3/12)
  pub mark_is : (s : Aic) (x : Step) → starts s x ≡ true → 32 ≤ started_by s x
      → (step s x).aic
      ≡ with_seen (with_handlers s (set s.source s.depth 0) (set s.level s.depth (level_below s.level s.depth)) (s.depth + 1)) (step s x).aic.seen
  -- after any start nothing is remembered (02, 9/12)
  pub start_forgets : (s : Aic) (x : Step) → starts s x ≡ true → (step s x).aic.seen.what ≡ 0
  -- after a close the last entry is closed, mark or handler (02, 3/12)
  pub close_is : (s : Aic) (x : Step) → closes s x ≡ true → (step s x).aic ≡ closed_last s
  pub closed_is : (s : Aic) → closed_last s ≡ with_handlers s (set s.source (s.depth - 1) 0) (set s.level (s.depth - 1) 0) (s.depth - 1)
  -- any other step leaves the open entries as they are
  pub other_is : (s : Aic) (x : Step) → starts s x ≡ false → closes s x ≡ false
      → ((step s x).aic.source ≡ s.source) × ((step s x).aic.level ≡ s.level) × ((step s x).aic.depth ≡ s.depth)
  -- while source k stays pending, enabled and not fast (so it is not source 0), and no step rewrites a mode or the forcing, of the handlers of other
  -- sources that are started all but at most one are of sources ahead of k, and all are if no source other than k is remembered at the outset;
  -- from any record, sound or not (demand 3, second sentence; 02, 9/12)
  pub order : (s : Aic) (k : ℕ) (xs : List Step) → k < 32 → always (waits k) s xs ≡ true → count (strays (ahead_of s k) k) s xs ≤ one (carries k s)
  -- and that one is the source that is remembered at the outset
  pub order_who : (s : Aic) (k : ℕ) (xs : List Step) → k < 32 → always (waits k) s xs ≡ true
      → EachStart (λ j. j ≢ k → (ahead s j k ≡ true) ⊎ ((carries k s ≡ true) × (j ≡ s.seen.source))) s xs
  -- so, where no source is remembered at the outset, every handler that is started is of k itself or of a source ahead of k
  pub order_plain : (s : Aic) (k : ℕ) (xs : List Step) → s.seen.what ≢ 1 → k < 32 → always (waits k) s xs ≡ true
      → EachStart (λ j. j ≢ k → ahead s j k ≡ true) s xs
  -- an edge-triggered source starts no more than it is owed and receives, and one more if it is remembered at the outset; what it is owed in the
  -- end is left over (02, 9/12)
  pub per_source : (s : Aic) (i : ℕ) (xs : List Step) → i < 32 → edge s i ≡ true → always steady s xs ≡ true
      → count (starts_of i) s xs + owed (run s xs) i ≤ owed s i + received i s xs + one (recalls i s)
  -- so, if all sources ahead of k are edge-triggered, the starts of others while k waits are at most the sources ahead that are pending at
  -- the outset, plus the edges and the set commands that the sources ahead receive meanwhile, and one more if a source other than k is
  -- remembered at the outset (demand 3, third sentence; 02, 9/12)
  pub bound : (s : Aic) (k : ℕ) (xs : List Step) → k < 32 → always (waits k) s xs ≡ true → EdgeTriggered s (ahead_of s k)
      → count (starts_other k) s xs ≤ sum_over (ahead_of s k) (λ i. owed s i + received i s xs) + one (carries k s)
  -- the same for less: only the sources ahead that are not fast need be edge-triggered, and only theirs is counted
  pub bound_normal : (s : Aic) (k : ℕ) (xs : List Step) → k < 32 → always (waits k) s xs ≡ true → EdgeTriggered s (rival_of s k)
      → count (starts_other k) s xs ≤ sum_over (rival_of s k) (λ i. owed s i + received i s xs) + one (carries k s)
  -- where no source is remembered at the outset there is no such one more; a sound record outside protect mode has none
  pub bound_plain : (s : Aic) (k : ℕ) (xs : List Step) → s.seen.what ≢ 1 → k < 32 → always (waits k) s xs ≡ true → EdgeTriggered s (ahead_of s k)
      → count (starts_other k) s xs ≤ sum_over (ahead_of s k) (λ i. owed s i + received i s xs)
  pub outside : (s : Aic) → sound s ≡ true → protects s ≡ false → s.seen.what ≢ 1
  -- the bound is met: a run on which all that it asks holds, and four handlers are started before source 9, as many as it allows
  pub bound_met : (always (waits 9) outset wait ≡ true) × EdgeTriggered outset (ahead_of outset 9)
      × (count (starts_other 9) outset wait ≡ 4) × (sum_over (ahead_of outset 9) (λ i. owed outset i + received i outset wait) ≡ 4)
  -- one pending at the outset, one edge, and two set commands by one write; four closes find an entry open, a mark among them,
  -- and one is open in the end
  pub bound_parts : (sum_over (ahead_of outset 9) (owed outset) ≡ 1) × (sum_over (ahead_of outset 9) (λ i. count (edges i) outset wait) ≡ 1)
      × (sum_over (ahead_of outset 9) (λ i. count (commands i) outset wait) ≡ 2) × (count closes outset wait ≡ 4) × ((run outset wait).depth ≡ 1)
  -- the one more is needed: source 2 is remembered, and started while source 9 waits, though no source is ahead of 9 (02, 9/12)
  pub extra_needed : (always (waits 9) stale stale_wait ≡ true) × EdgeTriggered stale (ahead_of stale 9) × (count (starts_other 9) stale stale_wait ≡ 1)
      × (sum_over (ahead_of stale 9) (λ i. owed stale i + received i stale stale_wait) ≡ 0) × (carries 9 stale ≡ true)
  -- every record that a run from reset reaches is sound (01, AIC, A sound record)
  pub reached_sound : (external lines : ℕ) (xs : List Step) → sound (run (reset external lines) xs) ≡ true
  -- so no step of such a run is refused by 12, and none is hidden by it (01, Numbers)
  pub never_twelve : (external lines : ℕ) (xs : List Step) (x : Step) → (step (run (reset external lines) xs) x).refusal ≢ 12
