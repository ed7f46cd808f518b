-- What is promised of the bound of a wait: what is observed, what it bounds, and the figures of all waits of a run (demand 3; 02, 11/12 and 12/12).
use Rattle.std.specs.Prelude.{ℕ, ◌+◌, ◌≤◌, ◌<◌, ◌≡◌, true, false, List, [], ◌∷◌, ◌++◌, ◌↔◌, ◌≢◌, ◌⊎◌, length}
use Rattle.words.specs.Choice.{pick}
use Rattle.words.specs.Counting.{one}
use Rattle.words.specs.Word.{bit}
use Rattle.steps.specs.declared.Step.{Step}
use Rattle.aic_record.specs.declared.Aic.{Aic}
use Rattle.aic_record.specs.Record.{reset}
use Rattle.aic_record.specs.Mode.{edge}
use Rattle.aic_record.specs.Promises.{Shaped}
use Rattle.aic_sources.specs.Normal.{waiting}
use Rattle.aic.specs.Model.{step}
use Rattle.aic_runs.specs.Counted.{carried, carries, starts_of, starts_other, rises, edges, commands, rewrites, steady}
use Rattle.aic_runs.specs.Runs.{run, count, always, sum_over}
use Rattle.aic_runs.specs.Promises.{rival_of}
use Rattle.aic_runs.specs.Turns.{closes_hot, Cool, due}
use Rattle.aic_runs.specs.Rivals.{once_on}
use Rattle.aic_runs.specs.RivalsPromises.{allowed_before, levels_before, AllOn}
use Rattle.aic_waits.specs.Figures.{wait_after, standing, waited_of}
use Rattle.aic_waits.specs.Promises.{Waits}
use Rattle.aic_bounds.specs.declared.Bound.{Bound}
use Rattle.aic_bounds.specs.Bounds.{sets, lifts, idle, bound_at, bound_of}
use Rattle.aic_bounds.specs.Over.{bounded_of, largest_of, waits_begun, waits_unended, waits_unbounded, first_unbounded}
use Rattle.aic_bounds.specs.Following.{bound_followed, marks_of, marks_by}
use Rattle.aic_bounds.specs.Worked.{met, noisy, raised, stale, off, midway}

-- the record with which a wait begins: that after the step x
abbrev pub outset : Aic → List Step → Step → Aic
outset s before x = (step (run s before) x).aic

-- a wait of source k begins with the step x after `before`, and goes on over `during` (02, 11/12)
pub record Waiting (k : ℕ) (s : Aic) (before : List Step) (x : Step) (during : List Step) : Type 0 where
  pub none : standing k 0 s before ≡ 0
  pub begun : wait_after k 0 (run s before) x ≡ 2
  pub on : Waits k (outset s before x) during

-- it ends with the first step of `after`, by the source's own start or because it is no longer pending, enabled and not fast; or the run ends
abbrev pub Ends : ℕ → Aic → List Step → Type 0
Ends k u [] = Unit {0}
Ends k u (y ∷ ys) = (waiting (step u y).aic k ≡ false) ⊎ (starts_of k u y ≡ true)

-- a wait of a run, whole
pub record Whole (k : ℕ) (s : Aic) (xs before : List Step) (x : Step) (during after : List Step) : Type 0 where
  pub parts : xs ≡ before ++ (x ∷ (during ++ after))
  pub waits : Waiting k s before x during
  pub ends : Ends k (run (outset s before x) during) after

-- over the rivals of source k in the record t, what f says of a stretch from the first of its records in which the rival is enabled, added up
abbrev pub from_on : ℕ → Aic → List Step → (ℕ → Aic → List Step → ℕ) → ℕ
from_on k t xs f = sum_over (rival_of t k) (λ i. once_on i (f i) t xs)

-- what is observed of a wait that began with the record t, over its steps xs
pub record Terms (k : ℕ) (t : Aic) (xs : List Step) (b : Bound) : Type 0 where
  -- the handlers of others that were started in it, over 2 (02, 11/12)
  pub started : b.wait ≡ count (starts_other k) t xs + 2
  -- the rivals are the sources ahead of k that are not fast, by the record with which it began; those count that are enabled in one of its records
  pub rival : (i : ℕ) → i < 32 → bit b.rivals i ≡ rival_of t k i
  pub counts : (i : ℕ) → i < 32 → one (bit b.on i) ≡ pick (rival_of t k i) (once_on i (λ u ys. 1) t xs) 0
  -- each from the first such record: one if it is due there
  pub pended : b.pending ≡ from_on k t xs (λ i u ys. due u i)
  -- its edges, and the set commands to it, while it is edge-triggered; the turns of its line, while it is level-sensitive
  pub edged : b.edges ≡ from_on k t xs (λ i. count (edges i))
  pub commanded : b.commands ≡ from_on k t xs (λ i. count (sets i))
  pub turned : b.turns ≡ from_on k t xs (λ i. count (lifts i))
  -- its handlers that are closed while its line is active, level-sensitive as it is
  pub closed_active : b.closed ≡ from_on k t xs (λ i. count (closes_hot i))
  -- and one if a source other than k is remembered at the outset (02, 9/12)
  pub carried : b.remembered ≡ one (carries k t)
  -- together they are what the rivals are allowed
  pub sum : bound_of b ≡ allowed_before t k xs + one (carries k t)
  -- it holds exactly as long as no step carries out a write of a mode or a forcing
  pub holds : (b.broke ≡ 0) ↔ (always steady t xs ≡ true)

-- source k waits before and after the step y, the first of a run that rewrites a mode or a forcing in one of its waits: its number is n
pub record LostAt (k : ℕ) (s : Aic) (xs : List Step) (n : ℕ) : Type 0 where
  pub before : List Step
  pub by : Step
  pub after : List Step
  pub parts : xs ≡ before ++ (by ∷ after)
  pub number : n ≡ length before + 1
  pub earlier : waits_unbounded k s before ≡ 0
  pub rewrote : rewrites (run s before) by ≡ true
  pub waited : 2 ≤ standing k 0 s before
  pub waits : 2 ≤ standing k 0 s (before ++ (by ∷ []))

-- b is what is observed where a wait of the run ends that has a bound, and every wait before it that has one has a smaller one
pub record First (k : ℕ) (s : Aic) (xs : List Step) (b : Bound) : Type 0 where
  pub before : List Step
  pub by : Step
  pub during : List Step
  pub after : List Step
  pub whole : Whole k s xs before by during after
  pub held : always steady (outset s before by) during ≡ true
  pub is : b ≡ bound_at k s (before ++ (by ∷ during))
  pub smaller : bounded_of k s before < bound_of b

pub record Promises : Type 0 where
  -- ---- what is observed

  -- a set command to an edge-triggered source, and a turn of the line of a level-sensitive one
  pub sets_is : (i : ℕ) (s : Aic) (x : Step) → (sets i s x ≡ true) ↔ ((commands i s x ≡ true) × (edge s i ≡ true))
  pub lifts_is : (i : ℕ) (s : Aic) (x : Step) → (lifts i s x ≡ true) ↔ ((rises i s x ≡ true) × (edge s i ≡ false))
  -- how it stands with a source is what 11/12 says
  pub wait_is : (s : Aic) (k : ℕ) (xs : List Step) → (bound_at k s xs).wait ≡ standing k 0 s xs
  -- a source that waits after a run is in a wait that began in it
  pub wait_where : (s : Aic) (k : ℕ) (xs : List Step) → 2 ≤ (bound_at k s xs).wait
      → (before : List Step) × (x : Step) × (during : List Step) × (xs ≡ before ++ (x ∷ during)) × Waiting k s before x during
  -- the terms of every wait, at every moment of it
  pub terms : (s : Aic) (k : ℕ) (before : List Step) (x : Step) (during : List Step) → Waiting k s before x during
      → Terms k (outset s before x) during (bound_at k s (before ++ (x ∷ during)))
  -- the first step of a wait that is a rewrite is told, and stays told; the number of the first step of a run is 1
  pub broke_at : (s : Aic) (k : ℕ) (before : List Step) (x : Step) (ys : List Step) (y : Step) (zs : List Step) → Waiting k s before x (ys ++ (y ∷ zs))
      → always steady (outset s before x) ys ≡ true → rewrites (run (outset s before x) ys) y ≡ true
      → (bound_at k s (before ++ (x ∷ (ys ++ (y ∷ zs))))).broke ≡ length before + length ys + 2
  -- what a step brings, as words, by whether it is carried out, is what the definitions say of it
  pub marks_is : (s : Aic) (x : Step) → marks_by (carried s x) s x ≡ marks_of s x
  -- on words of sources, with numbers of 32 bits, it is the same, for runs of up to 134,217,727 steps (a trace has at most 65,536)
  pub followed_is : (s : Aic) (k : ℕ) (xs : List Step) → length xs ≤ 134217727 → bound_followed k 0 (idle 0) s xs ≡ bound_at k s xs
  -- ---- what it bounds

  -- at every moment of every wait without a rewrite so far, the handlers of others started in it are at most its bound so far
  pub bounded : (s : Aic) (k : ℕ) (before : List Step) (x : Step) (during : List Step) → Shaped s → k < 32 → Waiting k s before x during
      → always steady (outset s before x) during ≡ true → count (starts_other k) (outset s before x) during ≤ bound_of (bound_at k s (before ++ (x ∷ during)))
  -- the same of what is observed after any run
  pub every_moment : (s : Aic) (k : ℕ) (xs : List Step) → Shaped s → k < 32 → 2 ≤ (bound_at k s xs).wait → (bound_at k s xs).broke ≡ 0
      → (bound_at k s xs).wait ≤ bound_of (bound_at k s xs) + 2
  -- with every rival enabled at the outset, and none closed while its line is active, it is the figure of 12/12
  pub same_figure : (s : Aic) (k : ℕ) (before : List Step) (x : Step) (during : List Step) → Waiting k s before x during → AllOn (outset s before x) k
      → Cool (outset s before x) (rival_of (outset s before x) k) during
      → bound_of (bound_at k s (before ++ (x ∷ during))) ≡ levels_before (outset s before x) k during + one (carries k (outset s before x))
  -- ---- over a run

  -- the figure is the largest bound over the waits that have one, each taken whole: some wait has it, if it is not 0, and none has more
  pub most_reached : (s : Aic) (k : ℕ) (xs : List Step) → (bounded_of k s xs ≡ 0)
      ⊎ ((before : List Step) × (x : Step) × (during : List Step) × (after : List Step) × Whole k s xs before x during after
      × (always steady (outset s before x) during ≡ true) × (bounded_of k s xs ≡ bound_of (bound_at k s (before ++ (x ∷ during)))))
  pub most_largest : (s : Aic) (k : ℕ) (xs before : List Step) (x : Step) (during after : List Step) → Whole k s xs before x during after
      → always steady (outset s before x) during ≡ true → bound_of (bound_at k s (before ++ (x ∷ during))) ≤ bounded_of k s xs
  -- so no more handlers are started in a wait that has a bound
  pub most_bounds : (s : Aic) (k : ℕ) (xs before : List Step) (x : Step) (during after : List Step) → Shaped s → k < 32 → Whole k s xs before x during after
      → always steady (outset s before x) during ≡ true → count (starts_other k) (outset s before x) during ≤ bounded_of k s xs
  -- the terms told with it are those of the first wait that has it; none are told where it is 0
  pub largest_sum : (s : Aic) (k : ℕ) (xs : List Step) → bound_of (largest_of k s xs) ≡ bounded_of k s xs
  pub largest_none : (s : Aic) (k : ℕ) (xs : List Step) → bounded_of k s xs ≡ 0 → largest_of k s xs ≡ idle 0
  pub largest_first : (s : Aic) (k : ℕ) (xs : List Step) → bounded_of k s xs ≢ 0 → First k s xs (largest_of k s xs)
  -- with one step more one more wait has begun exactly if it did not wait before that step and waits after it
  pub begun_none : (s : Aic) (k : ℕ) → waits_begun k s [] ≡ 0
  pub begun_more : (s : Aic) (k : ℕ) (xs : List Step) (x : Step) → standing k 0 s xs < 2 → 2 ≤ standing k 0 s (xs ++ (x ∷ []))
      → waits_begun k s (xs ++ (x ∷ [])) ≡ waits_begun k s xs + 1
  pub begun_same : (s : Aic) (k : ℕ) (xs : List Step) (x : Step) → (2 ≤ standing k 0 s xs) ⊎ (standing k 0 s (xs ++ (x ∷ [])) < 2)
      → waits_begun k s (xs ++ (x ∷ [])) ≡ waits_begun k s xs
  -- a wait has not ended exactly if it stands at the end
  pub unended_one : (s : Aic) (k : ℕ) (xs : List Step) → 2 ≤ standing k 0 s xs → waits_unended k s xs ≡ 1
  pub unended_none : (s : Aic) (k : ℕ) (xs : List Step) → standing k 0 s xs < 2 → waits_unended k s xs ≡ 0
  -- a wait loses its bound once at most: those that have none are at most those that begin
  pub fewer_unbounded : (s : Aic) (k : ℕ) (xs : List Step) → waits_unbounded k s xs ≤ waits_begun k s xs
  -- the first place where one does is told, 0 exactly if there is none
  pub first_none : (s : Aic) (k : ℕ) (xs : List Step) → (first_unbounded k s xs ≡ 0) ↔ (waits_unbounded k s xs ≡ 0)
  pub first_is : (s : Aic) (k : ℕ) (xs : List Step) → first_unbounded k s xs ≢ 0 → LostAt k s xs (first_unbounded k s xs)
  -- where all waits have a bound, the most that was seen is at most the largest of them (02, 11/12)
  pub seen_bounded : (s : Aic) (k : ℕ) (xs : List Step) → Shaped s → k < 32 → waits_unbounded k s xs ≡ 0 → waited_of k s xs ≤ bounded_of k s xs
  -- ---- worked out

  -- a wait behind 4, level-sensitive, and 6, edge-triggered (0x50), meets its bound: one due at the outset, one edge, one command, one turn, four started
  pub worked_met : (bound_at 9 (reset 0 0) met
      ≡ record { wait = 6; rivals = 0x50; on = 0x50; pending = 1; edges = 1; commands = 1; turns = 1; closed = 0; remembered = 0; broke = 0 })
      × (waited_of 9 (reset 0 0) met ≡ 4) × (bounded_of 9 (reset 0 0) met ≡ 4)
  -- a handler of 4 closed while its line is active counts: two started, and two are the bound
  pub worked_noisy : (bound_at 9 (reset 0 0) noisy
      ≡ record { wait = 4; rivals = 0x50; on = 0x50; pending = 1; edges = 0; commands = 0; turns = 0; closed = 1; remembered = 0; broke = 0 })
      × (waited_of 9 (reset 0 0) noisy ≡ 2) × (bounded_of 9 (reset 0 0) noisy ≡ 2)
  -- a write of a mode, step 6, leaves the first of two waits without a bound: one was started in it; the second has one
  pub worked_raised : (bounded_of 9 (reset 0 0) raised ≡ 1) × (waited_of 9 (reset 0 0) raised ≡ 1) × (waits_begun 9 (reset 0 0) raised ≡ 2)
      × (waits_unended 9 (reset 0 0) raised ≡ 1) × (waits_unbounded 9 (reset 0 0) raised ≡ 1) × (first_unbounded 9 (reset 0 0) raised ≡ 6)
  -- the term of what is remembered is needed: no source is ahead, and one is started
  pub worked_stale : (bound_at 9 (reset 0 0) stale
      ≡ record { wait = 3; rivals = 0; on = 0; pending = 0; edges = 0; commands = 0; turns = 0; closed = 0; remembered = 1; broke = 0 })
      × (waited_of 9 (reset 0 0) stale ≡ 1) × (bounded_of 9 (reset 0 0) stale ≡ 1)
  -- a rival that is enabled midway counts from there: what it is due then, and an edge behind that; two are started
  pub worked_midway : (bound_at 9 (reset 0 0) midway
      ≡ record { wait = 4; rivals = 0x08; on = 0x08; pending = 1; edges = 1; commands = 0; turns = 0; closed = 0; remembered = 0; broke = 0 })
      × (waited_of 9 (reset 0 0) midway ≡ 2) × (bounded_of 9 (reset 0 0) midway ≡ 2)
  -- one that stays off counts nothing
  pub worked_off : (bound_at 9 (reset 0 0) off
      ≡ record { wait = 2; rivals = 0x08; on = 0; pending = 0; edges = 0; commands = 0; turns = 0; closed = 0; remembered = 0; broke = 0 })
      × (bounded_of 9 (reset 0 0) off ≡ 0)
