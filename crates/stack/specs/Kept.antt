-- When a record of the controller keeps a priority table, and when a run does.
use Rattle.std.specs.Prelude.{ℕ, Bool, not, ◌&&◌, ◌||◌, List, [], ◌∷◌, eqb, get_or}
use Rattle.words.specs.Counting.{one, all_below, lowest_below}
use Rattle.words.specs.Word.{bit}
use Rattle.steps.specs.declared.Step.{Step}
use Rattle.aic_record.specs.declared.Aic.{Aic}
use Rattle.aic_record.specs.Mode.{priority, kind}
use Rattle.aic.specs.Model.{step}
use Rattle.stack.specs.declared.Table.{Table}

-- source i has the table's priority and type (02, 4/12; 003, 27.8.3)
unfoldable pub same_mode : Table → Aic → ℕ → Bool
same_mode t s i = eqb (priority s i) (get_or t.priority i 0) && eqb (kind s i) (get_or t.kind i 0)

-- and its forcing; of source 0, which nothing forces, it is not asked, since bit 0 of the table's word is ignored (02, 4/12; 01, AIC, Fast side)
unfoldable pub same_forcing : Table → Aic → ℕ → Bool
same_forcing t s i = eqb i 0 || eqb (one (bit s.forced i)) (one (bit t.forced i))

-- source i is off, so that it can start nothing, or is as the table has it
unfoldable pub source_keeps : Table → Aic → ℕ → Bool
source_keeps t s i = not (bit s.enabled i) || (same_mode t s i && same_forcing t s i)

-- a record keeps a table if every source of it does
unfoldable pub keeps : Table → Aic → Bool
keeps t s = all_below 32 (source_keeps t s)

-- the lowest source that does not, 32 where the record keeps the table
unfoldable pub unkept : Table → Aic → ℕ
unkept t s = lowest_below 32 (λ i. not (source_keeps t s i))

-- a run keeps a table if its record does at the start and after every step
unfoldable pub keeps_along : Table → Aic → List Step → Bool
keeps_along t s [] = keeps t s
keeps_along t s (x ∷ xs) = keeps t s && keeps_along t (step s x).aic xs
