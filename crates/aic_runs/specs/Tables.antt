-- What each count says of a step, what is gathered over a run, and the worked runs, down to offsets, bits and fields.
use Rattle.std.specs.Prelude.{ℕ, suc, ◌+◌, ◌*◌, ◌^◌, ◌<◌, ◌≡◌, Bool, true, false, ◌&&◌, List, [], ◌∷◌, ◌++◌, ◌↔◌, ◌≢◌, ◌⊎◌, eqb}
use Rattle.words.specs.Choice.{pick}
use Rattle.words.specs.Counting.{one, sum_below}
use Rattle.words.specs.Word.{bit}
use Rattle.steps.specs.declared.Step.{Step}
use Rattle.steps.specs.declared.Step.TheVariants.{Read, Write, Line}
use Rattle.aic_record.specs.declared.Aic.{Aic}
use Rattle.aic_record.specs.Record.{reset}
use Rattle.aic_record.specs.Mode.{priority, edge}
use Rattle.aic_sources.specs.Pending.{pending}
use Rattle.aic_sources.specs.Fast.{fast}
use Rattle.aic_sources.specs.Normal.{chosen}
use Rattle.aic_registers.specs.Effects.{turns}
use Rattle.aic.specs.Model.{step}
use Rattle.aic_runs.specs.Counted.{starts, started_by, level_of, recalls, carries, starts_of, starts_other, strays, closes, edges, commands, steady, waits}
use Rattle.aic_runs.specs.Runs.{run, count, always, EachStart, owed, received, sum_over}
use Rattle.aic_runs.specs.Worked.{tower, crowded, outset, wait, stale, stale_wait}

-- what a step x counts as in the record s that it meets; refused, it counts as nothing (demand 3; 01, AIC, Pending and Normal side)
pub record Counts (s : Aic) (x : Step) : Type 0 where
  -- a start finds fewer than eight entries open: outside protect mode it is a read of IVR, in it a write of IVR, of any value, with something
  -- remembered (02, 3/12 and 9/12; 003, 27.7.3.1 and 27.7.5)
  pub start : (starts s x ≡ true)
      ↔ ((((x ≡ Read 0x100) × (bit s.debug 0 ≡ false)) ⊎ ((v : ℕ) × (x ≡ Write 0x100 v) × (bit s.debug 0 ≡ true) × (s.seen.what ≢ 0)))
      × ((step s x).refusal ≡ 0) × (s.depth < 8))
  -- outside it is of the candidate ahead of all others, at its priority then; where a mark is opened the source is 32, which is none
  pub start_chosen : starts s x ≡ true → bit s.debug 0 ≡ false → (started_by s x ≡ chosen s) × (level_of s x ≡ priority s (chosen s))
  -- in the mode it is of the source that is remembered, at the level that is remembered; where "none" is, it opens a mark
  pub start_seen : starts s x ≡ true → bit s.debug 0 ≡ true → s.seen.what ≡ 1 → (started_by s x ≡ s.seen.source) × (level_of s x ≡ s.seen.level)
  pub start_mark : starts s x ≡ true → bit s.debug 0 ≡ true → s.seen.what ≢ 1 → started_by s x ≡ 32
  -- and a step that is no start starts no source
  pub start_none : starts s x ≡ false → started_by s x ≡ 32
  -- source i is remembered, and a source other than k is (02, 9/12)
  pub recall : (i : ℕ) → (recalls i s ≡ true) ↔ ((s.seen.what ≡ 1) × (i ≡ s.seen.source))
  pub carry : (k : ℕ) → (carries k s ≡ true) ↔ ((s.seen.what ≡ 1) × (k ≢ s.seen.source))
  -- a start of source i, and of another than source k
  pub start_of : (i : ℕ) → (starts_of i s x ≡ true) ↔ (i ≡ started_by s x)
  pub start_other : (k : ℕ) → (starts_other k s x ≡ true) ↔ ((started_by s x < 32) × (k ≢ started_by s x))
  -- and of one that does not pass a test
  pub stray : (t : ℕ → Bool) (k : ℕ) → (strays t k s x ≡ true) ↔ ((starts_other k s x ≡ true) × (t (started_by s x) ≡ false))
  -- a close: a write of EOICR, of any value, that finds an entry open, mark or handler (02, 3/12; 003, 27.8.15)
  pub close : (closes s x ≡ true) ↔ ((v : ℕ) × (x ≡ Write 0x130 v) × ((step s x).refusal ≡ 0) × (s.depth ≢ 0))
  -- an edge of source i: its line turns active, and it is edge-triggered
  pub edge_in : (i : ℕ) → (edges i s x ≡ true)
      ↔ ((l : ℕ) × (x ≡ Line i l) × ((step s x).refusal ≡ 0) × (turns s i (eqb l 1) ≡ true) × (edge s i ≡ true))
  -- a set command to source i: a write of the set register whose bit i is 1 (003, 27.8.14)
  pub command : (i : ℕ) → (commands i s x ≡ true) ↔ ((v : ℕ) × (x ≡ Write 0x12C v) × ((step s x).refusal ≡ 0) × (bit v i ≡ true))
  -- a rewrite, so that the step is not steady: a write of a mode, of FFER or of FFDR (003, 27.8.3 and 27.7.4.5)
  pub rewrite : (steady s x ≡ false)
      ↔ ((o : ℕ) × (v : ℕ) × (x ≡ Write o v) × ((step s x).refusal ≡ 0) × ((o < 0x80) ⊎ ((o ≡ 0x140) ⊎ (o ≡ 0x144))))
  -- source k waits: pending, enabled and not fast, before a step that is steady
  pub waiting : (k : ℕ) → (waits k s x ≡ true)
      ↔ ((pending s k ≡ true) × (bit s.enabled k ≡ true) × (fast s k ≡ false) × (steady s x ≡ true))

-- what a run is, and what is gathered over it, each step in the record that it meets
pub record Gathers : Type 1 where
  pub run_none : (s : Aic) → run s [] ≡ s
  pub run_more : (s : Aic) (x : Step) (xs : List Step) → run s (x ∷ xs) ≡ run (step s x).aic xs
  -- how many steps pass a test, and whether all do
  pub count_none : (t : Aic → Step → Bool) (s : Aic) → count t s [] ≡ 0
  pub count_more : (t : Aic → Step → Bool) (s : Aic) (x : Step) (xs : List Step) → count t s (x ∷ xs) ≡ one (t s x) + count t (step s x).aic xs
  pub always_none : (t : Aic → Step → Bool) (s : Aic) → always t s [] ≡ true
  pub always_more : (t : Aic → Step → Bool) (s : Aic) (x : Step) (xs : List Step) → always t s (x ∷ xs) ≡ (t s x && always t (step s x).aic xs)
  -- P holds of each source that is started
  pub each_more : (P : ℕ → Type 0) (s : Aic) (x : Step) (xs : List Step)
      → EachStart P s (x ∷ xs) ↔ ((started_by s x < 32 → P (started_by s x)) × EachStart P (step s x).aic xs)
  -- a source is owed one start while it is pending; it receives its edges and the set commands to it
  pub owed_is : (s : Aic) (i : ℕ) → owed s i ≡ one (pending s i)
  pub received_is : (i : ℕ) (s : Aic) (xs : List Step) → received i s xs ≡ count (edges i) s xs + count (commands i) s xs
  -- a sum over those of the 32 sources that pass a test
  pub sum_is : (t : ℕ → Bool) (f : ℕ → ℕ) → sum_over t f ≡ sum_below 32 (λ i. pick (t i) (f i) 0)

-- the four worked runs, step by step
pub record Steps : Type 0 where
  -- source n + 1 is made edge-triggered at priority n (0x60 is type 3), enabled, has an edge and is started
  pub tower_none : tower 0 ≡ []
  pub tower_more : (n : ℕ) → tower (suc n)
      ≡ tower n ++ (Write ((n + 1) * 4) (0x60 + n) ∷ Write 0x120 (2 ^ (n + 1)) ∷ Line (n + 1) 1 ∷ Read 0x100 ∷ [])
  -- eight reads of IVR; then source 1 is made edge-triggered at priority 7, enabled, and has an edge
  pub crowded_is : crowded
      ≡ run (reset 0 0)
      (Read 0x100 ∷ Read 0x100 ∷ Read 0x100 ∷ Read 0x100 ∷ Read 0x100 ∷ Read 0x100 ∷ Read 0x100 ∷ Read 0x100 ∷ Write 0x04 0x67 ∷ Write 0x120 0x002 ∷ Line 1 1 ∷ [])
  -- sources 4, 6 and 9 are made edge-triggered at priorities 5, 4 and 3, and enabled; 4 and 9 have an edge
  pub outset_is : outset
      ≡ run (reset 0 0)
      (Write 0x10 0x65 ∷ Write 0x120 0x010 ∷ Write 0x18 0x64 ∷ Write 0x120 0x040 ∷ Write 0x24 0x63 ∷ Write 0x120 0x200 ∷ Line 4 1 ∷ Line 9 1 ∷ [])
  pub wait_is : wait
      ≡ Read 0x100 ∷ Line 6 1 ∷ Line 6 1 ∷ Read 0x100 ∷ Write 0x130 0 ∷ Write 0x130 0 ∷ Read 0x100 ∷ Write 0x130 0 ∷ Write 0x130 0 ∷ Write 0x12C 0x50 ∷ Read 0x101
      ∷ Read 0x100 ∷ Write 0x130 0 ∷ Read 0x100 ∷ []
  -- sources 2 and 9 are made edge-triggered at priorities 1 and 3, and enabled; in protect mode source 2 has an edge and is looked at, then 9 has one
  pub stale_is : stale
      ≡ run (reset 0 0)
      (Write 0x08 0x61 ∷ Write 0x120 0x004 ∷ Write 0x24 0x63 ∷ Write 0x120 0x200 ∷ Write 0x138 1 ∷ Line 2 1 ∷ Read 0x100 ∷ Line 9 1 ∷ [])
  pub stale_wait_is : stale_wait ≡ Write 0x100 0 ∷ Write 0x130 0 ∷ Read 0x100 ∷ Line 9 0 ∷ []
