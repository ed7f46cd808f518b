-- A window of a trace of an AIC: some of its steps, and for each what holds after it.
use Rattle.std.specs.Prelude.{ℕ, ◌-◌, List, [], ◌∷◌, take, drop}
use Rattle.words.specs.Counting.{one}
use Rattle.steps.specs.declared.Recorded.{Recorded}
use Rattle.aic_record.specs.declared.Aic.{Aic}
use Rattle.aic_record.specs.Last.{last_source, last_level}
use Rattle.aic.specs.Model.{outputs}
use Rattle.machine.specs.declared.record.Machine.{Machine}
use Rattle.machine.specs.Steps.{step}
use Rattle.beginning.specs.Play.{run_of}
use Rattle.drawing.specs.Bars.{Column, packed}

-- what holds after a step: the outputs, how many entries are open, the last of them, and the number by which the step is refused
abbrev pub column_of : ℕ → Aic → Column
column_of refusal s =
    record { irq = one (outputs s).irq; fiq = one (outputs s).fiq; entries = (outputs s).entries; source = last_source s; level = last_level s; refusal = refusal }

-- the columns of some step records, each as one number
unfoldable pub columns_from : Machine → List Recorded → List ℕ
columns_from m [] = []
columns_from m (x ∷ xs) = packed (column_of (step m x).refusal (step m x).machine.aic) ∷ columns_from (step m x).machine xs

-- the step records of a window, at most so many from the first on, which are numbered from 1
abbrev pub within : ℕ → ℕ → List Recorded → List Recorded
within first steps xs = take steps (drop (first - 1) xs)

-- the machine before it
abbrev pub before : ℕ → Machine → List Recorded → Machine
before first m xs = run_of m (take (first - 1) xs)

-- column 0, what held before the first step, and a column for each step
unfoldable pub columns_of : ℕ → ℕ → Machine → List Recorded → List ℕ
columns_of first steps m xs = packed (column_of 0 (before first m xs).aic) ∷ columns_from (before first m xs) (within first steps xs)
