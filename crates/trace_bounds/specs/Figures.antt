-- The figures of all waits of a source over a trace, as numbers of 32 bits.
use Rattle.std.specs.Prelude.{ℕ, List, [], ◌∷◌}
use Rattle.words.specs.Choice.{pick}
use Rattle.aic_bounds.specs.declared.Bound.{Bound}
use Rattle.aic_bounds.specs.declared.figures.Figures.{Figures}
use Rattle.aic_bounds.specs.Figures.{no_figures, figures_of, largest_now, unended_now}
use Rattle.beginning.specs.Begin.{begin_of}
use Rattle.beginning.specs.Play.{records_of}
use Rattle.tally.specs.Tally.{steps_in}
use Rattle.trace_bounds.specs.Listing.{is_listed}

-- those that are followed over the steps played, at most so many; none where there are no waits to be listed
unfoldable pub figures_in : List ℕ → ℕ → ℕ → Figures
figures_in s limit k = pick (is_listed s k) (figures_of k (begin_of s).machine.aic (steps_in (records_of s limit).steps)) no_figures

-- the waits that begin, have not ended, and have no bound, and the first step by which one has none
unfoldable pub counts_of : Figures → List ℕ
counts_of f = f.begun ∷ unended_now f ∷ f.unbounded ∷ f.first ∷ []

-- the six terms of a bound; of the largest: handlers
unfoldable pub six_of : Bound → List ℕ
six_of b = b.pending ∷ b.edges ∷ b.commands ∷ b.turns ∷ b.closed ∷ b.remembered ∷ []

unfoldable pub terms_of : Figures → List ℕ
terms_of f = six_of (largest_now f)
