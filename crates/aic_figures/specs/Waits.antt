-- The figures of the waits of all 32 sources, as tables of 32 numbers: over a run, and as they are followed step by step.
use Rattle.std.specs.Prelude.{ℕ, List}
use Rattle.rooms.specs.Parts.{made}
use Rattle.steps.specs.declared.Step.{Step}
use Rattle.aic_record.specs.declared.Aic.{Aic}
use Rattle.aic.specs.Model.{step}
use Rattle.aic_waits.specs.Figures.{wait_after}
use Rattle.aic_bounds.specs.declared.Marks.{Marks}
use Rattle.aic_bounds.specs.Following.{bound_by}
use Rattle.aic_bounds.specs.Over.{largest_of, waits_begun, waits_unended, waits_unbounded, first_unbounded}
use Rattle.aic_bounds.specs.declared.figures.Figures.{Figures}
use Rattle.aic_bounds.specs.Figures.{figures_with, largest_now, unended_now}
use Rattle.totals.specs.declared.waits.Waits.{Waits}

-- of each source over a run from a record in which none waits: the waits that begin, have not ended, and have no bound, the first step by which one has
-- none, and the six terms of the largest bound (02, 11/12 and 12/12): waits, waits, waits, the number of a step, handlers
unfoldable pub waits_of : Aic → List Step → Waits
waits_of s xs =
    record {
      begun = made 32 (λ k. waits_begun k s xs);
      unended = made 32 (λ k. waits_unended k s xs);
      unbounded = made 32 (λ k. waits_unbounded k s xs);
      first = made 32 (λ k. first_unbounded k s xs);
      pending = made 32 (λ k. (largest_of k s xs).pending);
      edges = made 32 (λ k. (largest_of k s xs).edges);
      commands = made 32 (λ k. (largest_of k s xs).commands);
      turns = made 32 (λ k. (largest_of k s xs).turns);
      closed = made 32 (λ k. (largest_of k s xs).closed);
      remembered = made 32 (λ k. (largest_of k s xs).remembered);
    }

-- ---- step by step

-- the figures of each source after the n-th step, which brought m
unfoldable pub followed : ℕ → Marks → (ℕ → Figures) → Aic → Step → ℕ → Figures
followed n m f s x k = figures_with n (f k) (bound_by k (wait_after k (f k).bound.wait s x) n (f k).bound m (step s x).aic)

-- the tables of what is followed, the wait that stands among those with a bound
unfoldable pub waits_now : (ℕ → Figures) → Waits
waits_now f =
    record {
      begun = made 32 (λ k. (f k).begun);
      unended = made 32 (λ k. unended_now (f k));
      unbounded = made 32 (λ k. (f k).unbounded);
      first = made 32 (λ k. (f k).first);
      pending = made 32 (λ k. (largest_now (f k)).pending);
      edges = made 32 (λ k. (largest_now (f k)).edges);
      commands = made 32 (λ k. (largest_now (f k)).commands);
      turns = made 32 (λ k. (largest_now (f k)).turns);
      closed = made 32 (λ k. (largest_now (f k)).closed);
      remembered = made 32 (λ k. (largest_now (f k)).remembered);
    }
