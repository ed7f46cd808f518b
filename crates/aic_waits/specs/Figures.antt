-- The figures of a source over a run (02, 11/12), by the observers of runs: what starts a handler, and who waits.
use Rattle.std.specs.Prelude.{ℕ, ◌+◌, ◌-◌, max, Bool, not, ◌&&◌, List, [], ◌∷◌, eqb, ltb}
use Rattle.words.specs.Choice.{pick}
use Rattle.words.specs.Counting.{one, any_below}
use Rattle.steps.specs.declared.Step.{Step}
use Rattle.aic_record.specs.declared.Aic.{Aic}
use Rattle.aic_record.specs.Sound.{source_at}
use Rattle.aic_sources.specs.Normal.{waiting}
use Rattle.aic.specs.Model.{step}
use Rattle.aic_runs.specs.Counted.{starts_of, starts_other}
use Rattle.aic_runs.specs.Runs.{count}

-- ---- handlers started

-- the handlers of source i that a run starts; a mark is no handler (02, 11/12 and 3/12): handlers
unfoldable pub started_of : ℕ → Aic → List Step → ℕ
started_of i s xs = count (starts_of i) s xs

-- ---- handlers started while it waited

-- how it stands with a source: 0 it does not wait, 1 it was started and none of pending, enabled and not fast has ended since, n + 2 it waits and n
-- handlers of others were started meanwhile. After a step: by whether it is pending, enabled and not fast then, and whether the step starts it, or
-- another (02, 11/12)
unfoldable pub wait_next : ℕ → Bool → Bool → Bool → ℕ
wait_next w waits own other =
    pick (not waits) 0
    (pick own 1
    (pick (eqb w 0) 2
    (w + one (ltb 1 w && other))))

abbrev pub wait_after : ℕ → ℕ → Aic → Step → ℕ
wait_after i w s x = wait_next w (waiting (step s x).aic i) (starts_of i s x) (starts_other i s x)

-- how it stands after a run
unfoldable pub standing : ℕ → ℕ → Aic → List Step → ℕ
standing i w s [] = w
standing i w s (x ∷ xs) = standing i (wait_after i w s x) (step s x).aic xs

-- the most handlers started in one wait over a run, from how it stands and the most so far: handlers
unfoldable pub wait_most : ℕ → ℕ → ℕ → Aic → List Step → ℕ
wait_most i w m s [] = m
wait_most i w m s (x ∷ xs) = wait_most i (wait_after i w s x) (max m (wait_after i w s x - 2)) (step s x).aic xs

-- the largest number of handlers started while it waited, from a record in which it does not wait, as after reset (02, 11/12): handlers
unfoldable pub waited_of : ℕ → Aic → List Step → ℕ
waited_of i s xs = wait_most i 0 0 s xs

-- ---- entries open while it was open

-- a handler of source i is open; an entry of source 0 is a mark (02, 3/12)
unfoldable pub is_open : Aic → ℕ → Bool
is_open s i = any_below s.depth (λ d. eqb (source_at s d) i) && not (eqb i 0)

-- the entries open then, those below it, itself and marks among them, 0 where it is not open
abbrev pub entries_now : Aic → ℕ → ℕ
entries_now s i = pick (is_open s i) s.depth 0

-- the most of them after a step of a run, or so far: entries
unfoldable pub entries_most : ℕ → ℕ → Aic → List Step → ℕ
entries_most i m s [] = m
entries_most i m s (x ∷ xs) = entries_most i (max m (entries_now (step s x).aic i)) (step s x).aic xs

-- the deepest nesting while it was open (02, 11/12): entries
unfoldable pub entries_of : ℕ → Aic → List Step → ℕ
entries_of i s xs = entries_most i (entries_now s i) s xs
