-- What is promised of the figures of a run.
use Rattle.std.specs.Prelude.{ℕ, ◌+◌, ◌≤◌, ◌<◌, max, ◌≡◌, true, false, List, [], ◌∷◌, ◌++◌, ◌↔◌, ◌≢◌, ◌⊎◌, get_or, length}
use Rattle.words.specs.Counting.{one}
use Rattle.steps.specs.declared.Step.{Step}
use Rattle.aic_record.specs.declared.Aic.{Aic}
use Rattle.aic_record.specs.Record.{reset}
use Rattle.aic_record.specs.Sound.{sound}
use Rattle.aic_record.specs.Promises.{Shaped}
use Rattle.aic_sources.specs.Normal.{waiting}
use Rattle.aic.specs.Model.{step}
use Rattle.aic_runs.specs.Counted.{started_by, starts_of, starts_other, carries, waits}
use Rattle.aic_runs.specs.Runs.{run, count, always, owed, received, sum_over}
use Rattle.aic_runs.specs.Promises.{EdgeTriggered, ahead_of}
use Rattle.aic_waits.specs.Figures.{started_of, wait_after, standing, wait_most, waited_of, is_open, entries_now, entries_of}
use Rattle.aic_waits.specs.Following.{no_figures, figures_over, started_from}
use Rattle.aic_waits.specs.Worked.{busy}

-- source i waits after every step of a stretch, and is not started in it
abbrev pub Waits : ℕ → Aic → List Step → Type 0
Waits i s xs = (always (λ r x. waiting (step r x).aic i) s xs ≡ true) × (count (starts_of i) s xs ≡ 0)

-- a wait of source i begins with the step x of a run, goes on over the steps after it, and n handlers of others are started in these
abbrev pub Wait : ℕ → Aic → List Step → ℕ → Type 0
Wait i s xs n =
    (before : List Step) × (x : Step) × (during : List Step) × (after : List Step) × (xs ≡ before ++ (x ∷ (during ++ after)))
    × (standing i 0 s before ≡ 0) × (wait_after i 0 (run s before) x ≡ 2) × Waits i (step (run s before) x).aic during
    × (n ≡ count (starts_other i) (step (run s before) x).aic during)

pub record Promises : Type 0 where
  -- the handlers started of a source are the steps of a run that start it, each in the record that it meets: none over no step, and with one step more one
  -- more exactly if that step starts it (02, 11/12)
  pub started_none : (s : Aic) (i : ℕ) → started_of i s [] ≡ 0
  pub started_own : (s : Aic) (i : ℕ) (x : Step) (xs : List Step) → i < 32 → started_by s x ≡ i → started_of i s (x ∷ xs) ≡ 1 + started_of i (step s x).aic xs
  pub started_else : (s : Aic) (i : ℕ) (x : Step) (xs : List Step) → i < 32 → started_by s x ≢ i → started_of i s (x ∷ xs) ≡ started_of i (step s x).aic xs
  -- a handler of a source is open exactly if one of the entries that are open, the first to the last, is of it; source 0 stands for a mark, and is never
  -- open (02, 3/12 and 11/12)
  pub open_is : (s : Aic) (i : ℕ) → (is_open s i ≡ true) ↔ ((d : ℕ) × (d < s.depth) × (get_or s.source d 0 ≡ i) × (i ≢ 0))
  -- the entries then are all that are open, and none while it is not (02, 11/12)
  pub entries_open : (s : Aic) (i : ℕ) → is_open s i ≡ true → entries_now s i ≡ s.depth
  pub entries_shut : (s : Aic) (i : ℕ) → is_open s i ≡ false → entries_now s i ≡ 0
  -- step by step from reset, each figure of each source is its definition over the run, of up to 2,147,483,647 steps (a trace has at most 65,536) (02, 11/12)
  pub started_is : (external lines i : ℕ) (xs : List Step) → i < 32 → length xs ≤ 2147483647
      → get_or (figures_over no_figures (reset external lines) xs).started i 0 ≡ started_of i (reset external lines) xs
  pub waited_is : (external lines i : ℕ) (xs : List Step) → i < 32 → length xs ≤ 2147483647
      → get_or (figures_over no_figures (reset external lines) xs).waited i 0 ≡ waited_of i (reset external lines) xs
  pub entries_is : (external lines i : ℕ) (xs : List Step) → i < 32
      → get_or (figures_over no_figures (reset external lines) xs).entries i 0 ≡ entries_of i (reset external lines) xs
  -- the entries of the records before and after a step tell whose handler it starts
  pub entries_tell : (s : Aic) (x : Step) → Shaped s → sound s ≡ true → started_from s.depth (step s x).aic ≡ started_by s x
  -- over a stretch in which a source waits throughout, and is not started, n handlers of others having been started before in this wait, what is
  -- counted is what demand 3 bounds (demand 3; 02, 11/12)
  pub stretch : (s : Aic) (i n m : ℕ) (xs : List Step) → Waits i s xs → n ≤ m → wait_most i (n + 2) m s xs ≡ max m (n + count (starts_other i) s xs)
  -- so the bound of demand 3 holds of it, from the step that begins the wait on (demand 3, third sentence; 02, 9/12)
  pub bounded : (s : Aic) (k : ℕ) (xs : List Step) → k < 32 → always (waits k) s xs ≡ true → Waits k s xs → EdgeTriggered s (ahead_of s k)
      → wait_most k 2 0 s xs ≤ sum_over (ahead_of s k) (λ i. owed s i + received i s xs) + one (carries k s)
  -- the figure is the largest over all waits, whether they end in a start or not: some wait has it, if it is not 0, and none has more (02, 11/12)
  pub reached : (s : Aic) (i : ℕ) (xs : List Step) → (waited_of i s xs ≡ 0) ⊎ Wait i s xs (waited_of i s xs)
  pub largest : (s : Aic) (i n : ℕ) (xs : List Step) → Wait i s xs n → n ≤ waited_of i s xs
  -- the deepest nesting is the largest over the record at the outset and those after each step: one of them has it, and none has more (02, 11/12)
  pub deepest_reached : (s : Aic) (i : ℕ) (xs : List Step)
      → (before : List Step) × (after : List Step) × (xs ≡ before ++ after) × (entries_of i s xs ≡ entries_now (run s before) i)
  pub deepest_largest : (s : Aic) (i : ℕ) (before after : List Step) → entries_now (run s before) i ≤ entries_of i s (before ++ after)
  -- a wait begins with the step after which the source is pending, enabled and not fast, if it did not wait and was not served; it ends where one of
  -- these ends, or with its own start; after a start it does not wait until one has ended (02, 11/12)
  pub begins : (s : Aic) (i : ℕ) (x : Step) → waiting (step s x).aic i ≡ true → starts_of i s x ≡ false → wait_after i 0 s x ≡ 2
  pub ends : (s : Aic) (i w : ℕ) (x : Step) → waiting (step s x).aic i ≡ false → wait_after i w s x ≡ 0
  pub serves : (s : Aic) (i w : ℕ) (x : Step) → waiting (step s x).aic i ≡ true → starts_of i s x ≡ true → wait_after i w s x ≡ 1
  pub served : (s : Aic) (i : ℕ) (x : Step) → waiting (step s x).aic i ≡ true → wait_after i 1 s x ≡ 1
  -- a step that starts the handler of another source does not end a wait, so none is lost to the count
  pub keeps_waiting : (s : Aic) (i : ℕ) (x : Step) → i < 32 → starts_other i s x ≡ true → waiting s i ≡ true → waiting (step s x).aic i ≡ true
  -- source 0 is always fast: all its figures are 0 (01, AIC, Fast side)
  pub zero : (external lines : ℕ) (xs : List Step)
      → (started_of 0 (reset external lines) xs ≡ 0) × (waited_of 0 (reset external lines) xs ≡ 0) × (entries_of 0 (reset external lines) xs ≡ 0)
  -- never more than eight entries are open (demand 3)
  pub eight : (external lines i : ℕ) (xs : List Step) → entries_of i (reset external lines) xs ≤ 8
  -- on the worked run: the level-sensitive source 2, started twice, waits once while another is started; 4 is started twice and never waits for another;
  -- 7 waits to the end, and four handlers are started meanwhile; 9 is fast till the end (02, 11/12)
  pub handlers : (started_of 2 (reset 0 0) busy ≡ 2) × (started_of 4 (reset 0 0) busy ≡ 2) × (started_of 7 (reset 0 0) busy ≡ 0) × (started_of 9 (reset 0 0) busy ≡ 0)
  pub longest : (waited_of 2 (reset 0 0) busy ≡ 1) × (waited_of 4 (reset 0 0) busy ≡ 0) × (waited_of 7 (reset 0 0) busy ≡ 4) × (waited_of 9 (reset 0 0) busy ≡ 0)
  -- three entries while 2 was open, those above it and a mark among them, and while 4 was, that below it and the mark; the marks are no handlers
  pub deepest : (entries_of 2 (reset 0 0) busy ≡ 3) × (entries_of 4 (reset 0 0) busy ≡ 3) × (entries_of 7 (reset 0 0) busy ≡ 0) × (entries_of 0 (reset 0 0) busy ≡ 0)
