-- What a source ahead may start while another waits, with no premise on its handlers' ends, and from when on it counts.
use Rattle.std.specs.Prelude.{ℕ, ◌+◌, List, [], ◌∷◌}
use Rattle.words.specs.Choice.{pick}
use Rattle.words.specs.Word.{bit}
use Rattle.steps.specs.declared.Step.{Step}
use Rattle.aic_record.specs.declared.Aic.{Aic}
use Rattle.aic.specs.Model.{step}
use Rattle.aic_runs.specs.Runs.{count}
use Rattle.aic_runs.specs.Turns.{closes_hot, gained, due}

-- what source i may start over a run in which it is enabled from the outset: what it is due and what it gains (02, 12/12), and one more for each of its
-- handlers that is closed while its line is active, level-sensitive as it is
unfoldable pub chances : ℕ → Aic → List Step → ℕ
chances i s xs = due s i + gained i s xs + count (closes_hot i) s xs

-- what f says of a run from the first of its records in which source i is enabled, 0 where there is none: a source that is off starts nothing
-- (01, AIC, Normal side)
unfoldable pub once_on : ℕ → (Aic → List Step → ℕ) → Aic → List Step → ℕ
once_on i f s [] = pick (bit s.enabled i) (f s []) 0
once_on i f s (x ∷ xs) = pick (bit s.enabled i) (f s (x ∷ xs)) (once_on i f (step s x).aic xs)

-- what source i may start over any run
unfoldable pub allowed : ℕ → Aic → List Step → ℕ
allowed i s xs = once_on i (chances i) s xs
