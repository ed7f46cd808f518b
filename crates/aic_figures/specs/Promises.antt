-- What is promised of the figures of the waits of all sources: they are, source by source, what is defined over the run, and the book tells them.
use Rattle.std.specs.Prelude.{ℕ, ◌+◌, ◌≤◌, ◌<◌, ◌≡◌, List, ◌∷◌, length, get_or}
use Rattle.steps.specs.declared.Step.{Step}
use Rattle.aic_record.specs.declared.Aic.{Aic}
use Rattle.aic.specs.Model.{step}
use Rattle.aic_bounds.specs.Following.{marks_of}
use Rattle.aic_bounds.specs.Over.{largest_of, waits_begun, waits_unended, waits_unbounded, first_unbounded}
use Rattle.aic_bounds.specs.declared.figures.Figures.{Figures}
use Rattle.aic_bounds.specs.Figures.{figures_over, figures_of}
use Rattle.totals.specs.declared.waits.Waits.{Waits}
use Rattle.aic_figures.specs.Waits.{waits_of, waits_now, followed}
use Rattle.aic_figures.specs.WaitsBook.{Kept}

-- what the tables tell of source k
pub record Source (w : Waits) (k : ℕ) (s : Aic) (xs : List Step) : Type 0 where
  pub begun : get_or w.begun k 0 ≡ waits_begun k s xs
  pub unended : get_or w.unended k 0 ≡ waits_unended k s xs
  pub unbounded : get_or w.unbounded k 0 ≡ waits_unbounded k s xs
  pub first : get_or w.first k 0 ≡ first_unbounded k s xs
  pub pending : get_or w.pending k 0 ≡ (largest_of k s xs).pending
  pub edges : get_or w.edges k 0 ≡ (largest_of k s xs).edges
  pub commands : get_or w.commands k 0 ≡ (largest_of k s xs).commands
  pub turns : get_or w.turns k 0 ≡ (largest_of k s xs).turns
  pub closed : get_or w.closed k 0 ≡ (largest_of k s xs).closed
  pub remembered : get_or w.remembered k 0 ≡ (largest_of k s xs).remembered

pub record Promises : Type 0 where
  -- the tables of a run tell of each source its figures by their definitions (02, 11/12 and 12/12)
  pub source : (s : Aic) (xs : List Step) (k : ℕ) → k < 32 → Source (waits_of s xs) k s xs
  -- the figures of a run are followed one step after the other, by what each step brings to the record that it meets; the first step is 1
  pub follows : (k n : ℕ) (f : ℕ → Figures) (s : Aic) (x : Step) (xs : List Step)
      → figures_over k n (f k) s (x ∷ xs) ≡ figures_over k (n + 1) (followed (n + 1) (marks_of s x) f s x k) (step s x).aic xs
  -- what is followed tells, source by source, what is defined over the run, for runs of up to 134,217,727 steps (a trace has at most 65,536)
  pub tell : (s : Aic) (xs : List Step) → length xs ≤ 134217727 → waits_now (λ k. figures_of k s xs) ≡ waits_of s xs
  -- a book tells the waits in one way
  pub one : (f g : ℕ → Figures) (book : List (List ℕ)) → Kept f book → Kept g book → waits_now f ≡ waits_now g
