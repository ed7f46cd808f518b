-- What is promised of the handlers that are started while a source waits, with no premise on how handlers end (demand 3; 02, 12/12).
use Rattle.std.specs.Prelude.{ℕ, ◌+◌, ◌≤◌, ◌<◌, ◌≡◌, true, false, List, ◌∷◌, ◌++◌}
use Rattle.words.specs.Counting.{one}
use Rattle.words.specs.Word.{bit}
use Rattle.steps.specs.declared.Step.{Step}
use Rattle.aic_record.specs.declared.Aic.{Aic}
use Rattle.aic_record.specs.Record.{reset}
use Rattle.aic_record.specs.Promises.{Shaped}
use Rattle.aic_sources.specs.Fast.{fast}
use Rattle.aic.specs.Model.{step}
use Rattle.aic_runs.specs.Counted.{recalls, carries, starts_of, starts_other, steady, waits}
use Rattle.aic_runs.specs.Runs.{run, count, always, sum_over}
use Rattle.aic_runs.specs.Promises.{rival_of}
use Rattle.aic_runs.specs.Turns.{closes_hot, Cool, gained, due}
use Rattle.aic_runs.specs.Rivals.{chances, once_on, allowed}
use Rattle.aic_runs.specs.RivalsWorked.{begun, noisy, behind, off, midway}

-- what the rivals of source k may start over a stretch from the record s: handlers
abbrev pub allowed_before : Aic → ℕ → List Step → ℕ
allowed_before s k xs = sum_over (rival_of s k) (λ i. allowed i s xs)

-- the right side of 12/12's bound but for what is remembered
abbrev pub levels_before : Aic → ℕ → List Step → ℕ
levels_before s k xs = sum_over (rival_of s k) (λ i. due s i + gained i s xs)

-- every source ahead of k that is not fast is enabled
abbrev pub AllOn : Aic → ℕ → Type 0
AllOn s k = (i : ℕ) → i < 32 → rival_of s k i ≡ true → bit s.enabled i ≡ true

pub record Promises : Type 0 where
  -- ---- what is counted

  -- what a source is due, what it gains, and its handlers closed while its line is active, added up
  pub chances_is : (i : ℕ) (s : Aic) (xs : List Step) → chances i s xs ≡ due s i + gained i s xs + count (closes_hot i) s xs
  -- a source counts from the first record in which it is enabled: from the outset, if it is enabled there; from a later one, if it is off before; else
  -- never
  pub once_first : (i : ℕ) (f : Aic → List Step → ℕ) (s : Aic) (xs : List Step) → bit s.enabled i ≡ true → once_on i f s xs ≡ f s xs
  pub once_later : (i : ℕ) (f : Aic → List Step → ℕ) (s : Aic) (ys zs : List Step)
      → ((us vs : List Step) (y : Step) → ys ≡ us ++ (y ∷ vs) → bit (run s us).enabled i ≡ false) → once_on i f s (ys ++ zs) ≡ once_on i f (run s ys) zs
  pub once_never : (i : ℕ) (f : Aic → List Step → ℕ) (s : Aic) (xs : List Step)
      → ((us vs : List Step) → xs ≡ us ++ vs → bit (run s us).enabled i ≡ false) → once_on i f s xs ≡ 0
  -- ---- one source

  -- a source that is not fast starts no more than its chances, and one more if it is remembered at the outset; what it is due in the end is left over
  pub per_source_hot : (s : Aic) (i : ℕ) (xs : List Step) → Shaped s → i < 32 → fast s i ≡ false → always steady s xs ≡ true
      → count (starts_of i) s xs + due (run s xs) i ≤ chances i s xs + one (recalls i s)
  -- one that is off starts nothing but what is remembered, and is not remembered anew
  pub off_none : (i : ℕ) (s : Aic) (x : Step) → i < 32 → bit s.enabled i ≡ false
      → one (starts_of i s x) + one (recalls i (step s x).aic) ≤ one (recalls i s)
  -- so it starts no more than it is allowed, and one more if it is remembered at the outset
  pub per_source_on : (s : Aic) (i : ℕ) (xs : List Step) → Shaped s → i < 32 → fast s i ≡ false → always steady s xs ≡ true
      → count (starts_of i) s xs ≤ allowed i s xs + one (recalls i s)
  -- ---- while source k waits

  -- at most so many handlers of others are started: the chances of the sources ahead that are not fast, and one more if a source other than k is
  -- remembered before the first step
  pub bound_hot : (s : Aic) (k : ℕ) (xs : List Step) → Shaped s → k < 32 → always (waits k) s xs ≡ true
      → count (starts_other k) s xs ≤ sum_over (rival_of s k) (λ i. chances i s xs) + one (carries k s)
  -- closer: each of them counts from the first record in which it is enabled
  pub bound_on : (s : Aic) (k : ℕ) (xs : List Step) → Shaped s → k < 32 → always (waits k) s xs ≡ true
      → count (starts_other k) s xs ≤ allowed_before s k xs + one (carries k s)
  -- where all of them are enabled, and none is closed while its line is active, it is the bound of 12/12
  pub same_levels : (s : Aic) (k : ℕ) (xs : List Step) → AllOn s k → Cool s (rival_of s k) xs → allowed_before s k xs ≡ levels_before s k xs
  -- ---- worked out

  -- behind a handler that is closed while its line is active: two are started, two allowed; the premise of 12/12 fails, and its figure is 1
  pub worked_noisy : (count (starts_other 9) (run (reset 0 0) begun) noisy ≡ 2) × (allowed_before (run (reset 0 0) begun) 9 noisy ≡ 2)
      × (levels_before (run (reset 0 0) begun) 9 noisy ≡ 1)
  -- behind a source that stays off nothing is allowed, where 12/12 allows three
  pub worked_off : (count (starts_other 9) (run (reset 0 0) behind) off ≡ 0) × (allowed_before (run (reset 0 0) behind) 9 off ≡ 0)
      × (levels_before (run (reset 0 0) behind) 9 off ≡ 3)
  -- behind one that is enabled midway two are started: what it is due when it is enabled, and an edge behind that
  pub worked_midway : (count (starts_other 9) (run (reset 0 0) behind) midway ≡ 2) × (allowed_before (run (reset 0 0) behind) 9 midway ≡ 2)
      × (levels_before (run (reset 0 0) behind) 9 midway ≡ 3)
