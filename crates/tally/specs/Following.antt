-- The figures of a trace, step by step.
use Rattle.std.specs.Prelude.{ℕ, ◌+◌, List, [], ◌∷◌, ◌≡◌, eqb, length}
use Rattle.words.specs.Choice.{pick}
use Rattle.steps.specs.declared.Recorded.{Recorded}
use Rattle.trace.specs.Trace.{Trace}
use Rattle.kinds.specs.Kinds.{aic_kind}
use Rattle.aic_record.specs.declared.Aic.{Aic}
use Rattle.aic_waits.specs.Following.{Figures, followed}
use Rattle.aic_figures.specs.Book.{Kept}
use Rattle.machine.specs.declared.record.Machine.{Machine}
use Rattle.machine.specs.Steps.{step}
use Rattle.totals.specs.declared.Totals.{Totals}
use Rattle.totals.specs.Totals.{zeros}
use Rattle.tally.specs.declared.Tallied.{Tallied}
use Rattle.tally.specs.Tally.{refused_in}

-- the figures after one step more: only an AIC's are moved on
unfoldable pub followed_by : Figures → Machine → Recorded → Figures
followed_by f m x = pick (eqb m.kind aic_kind) (followed f m.aic x.step) f

-- the figures of n steps stand in the book, and where the machine is an AIC they are of a run that ends in its record
abbrev pub Followed : Figures → Machine → ℕ → List ℕ → Type 0
Followed f m n book = (s : Aic) × Kept f s n book × (m.kind ≡ aic_kind → s ≡ m.aic)

-- and after some step records
unfoldable pub followed_all : Figures → Machine → List Recorded → Figures
followed_all f m [] = f
followed_all f m (x ∷ xs) = followed_all (followed_by f m x) (step m x).machine xs

-- how it stands with the sources is no figure
abbrev pub totals_of : Figures → Totals
totals_of f = record { started = f.started; waited = f.waited; entries = f.entries }

-- the tally of step records after n steps, k of them refused, with these figures
unfoldable pub tallied : ℕ → ℕ → Figures → Machine → Trace → Tallied
tallied n k f m t =
    record {
      steps = n + length t.steps;
      refused = k + refused_in m t.steps;
      refusal = t.refusal;
      offset = t.offset;
      figures = totals_of (followed_all f m t.steps);
    }

-- that of a trace that has no beginning
abbrev pub not_tallied : ℕ → ℕ → Tallied
not_tallied refusal offset = record { steps = 0; refused = 0; refusal = refusal; offset = offset; figures = zeros }
