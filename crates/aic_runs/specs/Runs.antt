-- What a run is, any list of steps with refused ones among them, and what is counted over it, each step in the record that it meets.
use Rattle.std.specs.Prelude.{ℕ, ◌+◌, ◌<◌, Bool, true, ◌&&◌, List, [], ◌∷◌}
use Rattle.words.specs.Choice.{pick}
use Rattle.words.specs.Counting.{one, sum_below}
use Rattle.steps.specs.declared.Step.{Step}
use Rattle.aic_record.specs.declared.Aic.{Aic}
use Rattle.aic_sources.specs.Pending.{pending}
use Rattle.aic.specs.Model.{step}
use Rattle.aic_runs.specs.Counted.{started_by, edges, commands}

-- the record after a run
unfoldable pub run : Aic → List Step → Aic
run s [] = s
run s (x ∷ xs) = run (step s x).aic xs

-- how many steps of a run pass a test
unfoldable pub count : (Aic → Step → Bool) → Aic → List Step → ℕ
count t s [] = 0
count t s (x ∷ xs) = one (t s x) + count t (step s x).aic xs

-- every step of a run passes a test
unfoldable pub always : (Aic → Step → Bool) → Aic → List Step → Bool
always t s [] = true
always t s (x ∷ xs) = t s x && always t (step s x).aic xs

-- every handler that a run starts is of a source of which P holds
unfoldable pub EachStart : (ℕ → Type 0) → Aic → List Step → Type 0
EachStart P s [] = Unit {0}
EachStart P s (x ∷ xs) = (started_by s x < 32 → P (started_by s x)) × EachStart P (step s x).aic xs

-- what source i is owed: one start while it is pending
unfoldable pub owed : Aic → ℕ → ℕ
owed s i = one (pending s i)

-- what source i receives during a run: its edges and the set commands to it
unfoldable pub received : ℕ → Aic → List Step → ℕ
received i s xs = count (edges i) s xs + count (commands i) s xs

-- the sum over the sources that pass a test
unfoldable pub sum_over : (ℕ → Bool) → (ℕ → ℕ) → ℕ
sum_over t f = sum_below 32 (λ i. pick (t i) (f i) 0)
