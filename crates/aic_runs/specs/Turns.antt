-- What is counted where sources ahead may be level-sensitive (02, 12/12), each step in the record that it meets.
use Rattle.std.specs.Prelude.{ℕ, ◌+◌, ◌-◌, ◌<◌, ◌≡◌, Bool, true, not, ◌&&◌, ◌||◌, List, [], ◌∷◌, eqb, leb}
use Rattle.words.specs.Choice.{pick}
use Rattle.words.specs.Counting.{one, any_below}
use Rattle.steps.specs.declared.Step.{Step}
use Rattle.aic_record.specs.declared.Aic.{Aic}
use Rattle.aic_record.specs.Mode.{priority, edge}
use Rattle.aic_record.specs.Sound.{source_at, level_at}
use Rattle.aic_sources.specs.Pending.{active, pending}
use Rattle.aic.specs.Model.{step}
use Rattle.aic_runs.specs.Counted.{closes, rises, edges, commands}
use Rattle.aic_runs.specs.Runs.{always}

-- a close of a handler of source i; an entry of source 0 is a mark, and no handler (02, 12/12 and 3/12)
unfoldable pub closes_of : ℕ → Aic → Step → Bool
closes_of i s x = closes s x && not (eqb i 0) && eqb (source_at s (s.depth - 1)) i

-- source i is level-sensitive, and its line is active at the moment one of its handlers is closed (02, 12/12)
unfoldable pub closes_hot : ℕ → Aic → Step → Bool
closes_hot i s x = closes_of i s x && not (edge s i) && active s i

-- the step closes no handler of source i so
unfoldable pub cool : ℕ → Aic → Step → Bool
cool i s x = not (closes_hot i s x)

-- of every source that passes a test: if it is level-sensitive, its line is inactive at the moment one of its handlers is closed (02, 12/12)
abbrev pub Cool : Aic → (ℕ → Bool) → List Step → Type 0
Cool s t xs = (i : ℕ) → i < 32 → t i ≡ true → always (cool i) s xs ≡ true

-- what source i gains by a step: an edge-triggered one an edge and a set command, a level-sensitive one a turn of its line to active (02, 12/12)
unfoldable pub gains : ℕ → Aic → Step → ℕ
gains i s x = pick (edge s i) (one (edges i s x) + one (commands i s x)) (one (rises i s x))

-- and by a run
unfoldable pub gained : ℕ → Aic → List Step → ℕ
gained i s [] = 0
gained i s (x ∷ xs) = gains i s x + gained i (step s x).aic xs

-- a handler of source i is open at its priority or above: source i cannot be started over it (01, AIC, Normal side; 003, 27.7.3.1)
unfoldable pub held : Aic → ℕ → Bool
held s i = not (eqb i 0) && any_below s.depth (λ d. eqb (source_at s d) i && leb (priority s i) (level_at s d))

-- what source i is due: one start while it is pending, a level-sensitive one only while it is not held; closed with its line inactive, a handler of
-- it leaves nothing to start (01, AIC, Pending; 02, 12/12)
unfoldable pub due : Aic → ℕ → ℕ
due s i = one (pending s i && (edge s i || not (held s i)))
