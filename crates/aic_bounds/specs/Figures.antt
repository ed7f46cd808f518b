-- The figures of all waits of a source over a run, moved on step by step with numbers of 32 bits.
use Rattle.std.specs.Prelude.{ℕ, ◌+◌, ◌&&◌, List, [], ◌∷◌, eqb, ltb}
use Rattle.words.specs.Choice.{pick}
use Rattle.words.specs.Counting.{one}
use Rattle.steps.specs.declared.Step.{Step}
use Rattle.aic_record.specs.declared.Aic.{Aic}
use Rattle.aic.specs.Model.{step}
use Rattle.aic_waits.specs.Figures.{wait_after}
use Rattle.aic_waits.specs.Following.{capped}
use Rattle.aic_bounds.specs.declared.Bound.{Bound}
use Rattle.aic_bounds.specs.Bounds.{idle}
use Rattle.aic_bounds.specs.Over.{better, loses}
use Rattle.aic_bounds.specs.Following.{marks_of, bound_by}
use Rattle.aic_bounds.specs.declared.figures.Figures.{Figures}

-- before any step
abbrev pub no_figures : Figures
no_figures = record { bound = idle 0; largest = idle 0; begun = 0; unbounded = 0; first = 0 }

-- after the n-th step, by which b is observed of the wait that stands: a wait that ends with it may be the one with the largest bound
unfoldable pub figures_with : ℕ → Figures → Bound → Figures
figures_with n f b =
    record {
      bound = b;
      largest = pick (ltb b.wait 2) (better f.largest f.bound) f.largest;
      begun = capped (f.begun + one (ltb f.bound.wait 2 && ltb 1 b.wait));
      unbounded = capped (f.unbounded + one (loses f.bound b));
      first = pick (loses f.bound b && eqb f.first 0) n f.first;
    }

-- after a run, n steps having gone before
unfoldable pub figures_over : ℕ → ℕ → Figures → Aic → List Step → Figures
figures_over k n f s [] = f
figures_over k n f s (x ∷ xs) =
    figures_over k (n + 1) (figures_with (n + 1) f (bound_by k (wait_after k f.bound.wait s x) (n + 1) f.bound (marks_of s x) (step s x).aic))
    (step s x).aic xs

-- from a record in which source k does not wait, as after reset
abbrev pub figures_of : ℕ → Aic → List Step → Figures
figures_of k s xs = figures_over k 0 no_figures s xs

-- the wait with the largest bound, that which stands among them
abbrev pub largest_now : Figures → Bound
largest_now f = better f.largest f.bound

-- the waits that have not ended: that which stands, if one does
abbrev pub unended_now : Figures → ℕ
unended_now f = one (ltb 1 f.bound.wait)
