-- Where a run leaves a table.
use Rattle.std.specs.Prelude.{ℕ, ◌+◌, ◌≡◌, true, false, List, ◌∷◌, ◌++◌, length}
use Rattle.steps.specs.declared.Step.{Step}
use Rattle.aic_record.specs.declared.Aic.{Aic}
use Rattle.aic_runs.specs.Runs.{run}
use Rattle.stack.specs.declared.Table.{Table}
use Rattle.stack.specs.Kept.{keeps, unkept}

-- after some first steps of xs the record does not keep the table, and every record before it does; source i is the lowest that does not; with n steps gone
-- before, the last of these first steps has the number `after`
pub record Left (t : Table) (a : Aic) (xs : List Step) (i n after : ℕ) : Type 0 where
  pub steps : List Step
  pub rest : List Step
  pub parts : xs ≡ steps ++ rest
  pub number : n + length steps ≡ after
  pub breaks : keeps t (run a steps) ≡ false
  pub source : unkept t (run a steps) ≡ i
  pub before : (ys : List Step) (z : Step) (zs : List Step) → steps ≡ ys ++ (z ∷ zs) → keeps t (run a ys) ≡ true
