-- What is promised of the figures of all waits of a source: step by step they are what is defined over the run.
use Rattle.std.specs.Prelude.{ℕ, ◌≤◌, ◌≡◌, List, length}
use Rattle.steps.specs.declared.Step.{Step}
use Rattle.aic_record.specs.declared.Aic.{Aic}
use Rattle.aic_bounds.specs.Bounds.{bound_at, bound_of}
use Rattle.aic_bounds.specs.Over.{bounded_of, largest_of, waits_begun, waits_unended, waits_unbounded, first_unbounded}
use Rattle.aic_bounds.specs.declared.figures.Figures.{Figures}
use Rattle.aic_bounds.specs.Figures.{figures_of, largest_now, unended_now}

-- f tells the waits of source k over the run xs from s
pub record Tells (k : ℕ) (s : Aic) (xs : List Step) (f : Figures) : Type 0 where
  -- the wait that stands
  pub stands : f.bound ≡ bound_at k s xs
  -- the first wait with the largest bound, and this bound
  pub largest : largest_now f ≡ largest_of k s xs
  pub most : bound_of (largest_now f) ≡ bounded_of k s xs
  -- how many waits begin, have not ended, and have no bound, and the first step by which one has none
  pub begun : f.begun ≡ waits_begun k s xs
  pub unended : unended_now f ≡ waits_unended k s xs
  pub unbounded : f.unbounded ≡ waits_unbounded k s xs
  pub first : f.first ≡ first_unbounded k s xs

pub record Promises : Type 0 where
  -- for runs of up to 134,217,727 steps (a trace has at most 65,536), from a record in which the source does not wait, as after reset
  pub figures_tell : (s : Aic) (k : ℕ) (xs : List Step) → length xs ≤ 134217727 → Tells k s xs (figures_of k s xs)
