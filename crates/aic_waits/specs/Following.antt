-- The figures of all sources, step by step.
use Rattle.std.specs.Prelude.{ℕ, ◌+◌, ◌-◌, max, Bool, not, ◌&&◌, List, [], ◌∷◌, eqb, ltb, leb, get_or, set, replicate}
use Rattle.words.specs.Choice.{pick}
use Rattle.words.specs.Counting.{one, upto}
use Rattle.steps.specs.declared.Step.{Step}
use Rattle.aic_record.specs.declared.Aic.{Aic}
use Rattle.aic_record.specs.Sound.{source_at}
use Rattle.aic_sources.specs.Normal.{waiting}
use Rattle.aic.specs.Model.{step}
use Rattle.aic_runs.specs.Counted.{started_by}
use Rattle.aic_waits.specs.Figures.{wait_next, is_open}

-- for each source the handlers started, how it stands with it, the most handlers started while it waited, and the most entries open while it was open
pub record Figures : Type 0 where
  pub started : List ℕ
  pub wait : List ℕ
  pub waited : List ℕ
  pub entries : List ℕ

abbrev pub tables : List ℕ → List ℕ → List ℕ → List ℕ → Figures
tables started wait waited entries = record { started = started; wait = wait; waited = waited; entries = entries }

-- before any step
abbrev pub no_figures : Figures
no_figures = tables (replicate 32 0) (replicate 32 0) (replicate 32 0) (replicate 32 0)

-- a number of 32 bits: where a count would pass the largest it stays there, which the definitions over a run do not know
unfoldable pub capped : ℕ → ℕ
capped n = pick (leb n 4294967295) n 4294967295

-- how it stands with source i, by how it stood, after a step that starts source `by` and leaves the record t
abbrev pub stands_by : ℕ → Aic → ℕ → ℕ → ℕ
stands_by by t w i = capped (wait_next w (waiting t i) (eqb i by) (ltb by 32 && not (eqb i by)))

-- the figures with those of source i moved on by a step that starts source `by`, and after which these wait, and these are open, of so many entries
abbrev pub figures_with : ℕ → (ℕ → Bool) → (ℕ → Bool) → ℕ → Figures → ℕ → Figures
figures_with by waits opens depth f i =
    tables
    (set f.started i (capped (get_or f.started i 0 + one (eqb i by))))
    (set f.wait i (capped (wait_next (get_or f.wait i 0) (waits i) (eqb i by) (ltb by 32 && not (eqb i by)))))
    (set f.waited i (max (get_or f.waited i 0) (capped (wait_next (get_or f.wait i 0) (waits i) (eqb i by) (ltb by 32 && not (eqb i by))) - 2)))
    (set f.entries i (max (get_or f.entries i 0) (pick (opens i) depth 0)))

-- those of all sources
unfoldable pub figures_by : ℕ → Aic → Figures → Figures
figures_by by t f = upto (figures_with by (waiting t) (is_open t) t.depth) f 32

-- the figures after one step more
unfoldable pub followed : Figures → Aic → Step → Figures
followed f s x = figures_by (started_by s x) (step s x).aic f

-- and after a run
unfoldable pub figures_over : Figures → Aic → List Step → Figures
figures_over f s [] = f
figures_over f s (x ∷ xs) = figures_over (followed f s x) (step s x).aic xs

-- the source whose handler was opened since so many entries were open, 32 if none was: what the entries of two records tell of a start
unfoldable pub started_from : ℕ → Aic → ℕ
started_from depth t = pick (leb t.depth depth) 32 (pick (eqb (source_at t depth) 0) 32 (source_at t depth))
