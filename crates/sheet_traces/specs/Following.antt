-- What is seen and tallied of an AIC, step by step.
use Rattle.std.specs.Prelude.{ℕ, ◌+◌, ◌≡◌, Bool, true, not, ◌&&◌, List, [], ◌∷◌, eqb, length}
use Rattle.words.specs.Choice.{pick}
use Rattle.words.specs.Counting.{one}
use Rattle.words.specs.Word.{either}
use Rattle.steps.specs.declared.Step.{Step}
use Rattle.trace.specs.Trace.{Trace}
use Rattle.aic_record.specs.declared.Aic.{Aic}
use Rattle.aic.specs.Model.{step}
use Rattle.aic_runs.specs.Counted.{carried, rewrites}
use Rattle.aic_runs.specs.Runs.{count}
use Rattle.aic_waits.specs.Following.{Figures, figures_over}
use Rattle.stack.specs.declared.Table.{Table}
use Rattle.stack.specs.Kept.{keeps, unkept}
use Rattle.tally.specs.declared.Tallied.{Tallied}
use Rattle.tally.specs.Following.{totals_of}
use Rattle.tally.specs.Tally.{steps_in}
use Rattle.sheet_traces.specs.declared.Watched.{Watched}
use Rattle.sheet_traces.specs.Watched.{opens_mark, idle_end}

-- before any step
abbrev pub watched_first : Table → Aic → Watched
watched_first t s = record { marks = 0; idle = 0; left = s.depth; used = s.enabled; strays = unkept t s; astray = 0 }

-- the lowest source that strays, where t is the record after a step: once there is one it stays
abbrev pub strays_next : Table → ℕ → Aic → ℕ
strays_next t strays s = pick (eqb strays 32) (unkept t s) strays

-- after the n-th step
unfoldable pub watched_by : Table → ℕ → Watched → Aic → Step → Watched
watched_by t n w s x =
    record {
      marks = w.marks + one (opens_mark s x);
      idle = w.idle + one (idle_end s x);
      left = (step s x).aic.depth;
      used = either w.used (step s x).aic.enabled;
      strays = strays_next t w.strays (step s x).aic;
      astray = pick (eqb w.strays 32 && not (eqb (strays_next t w.strays (step s x).aic) 32)) n w.astray;
    }

-- and after a run, n steps having gone before
unfoldable pub watched_all : Table → ℕ → Watched → Aic → List Step → Watched
watched_all t n w s [] = w
watched_all t n w s (x ∷ xs) = watched_all t (n + 1) (watched_by t (n + 1) w s x) (step s x).aic xs

-- the step is refused
abbrev pub refuses : Aic → Step → Bool
refuses s x = not (carried s x)

-- the tally of step records of an AIC after n steps, k of them refused, with these figures (02, 11/12)
unfoldable pub tallied_from : ℕ → ℕ → Figures → Aic → Trace → Tallied
tallied_from n k f s t =
    record {
      steps = n + length t.steps;
      refused = k + count refuses s (steps_in t.steps);
      refusal = t.refusal;
      offset = t.offset;
      figures = totals_of (figures_over f s (steps_in t.steps));
    }

-- what the loop knows of a step when it looks at the record after it
pub record Met (t : Table) (w : Watched) (s : Aic) (x : Step) (before enabled : ℕ) (idle wrote : Bool) : Type 0 where
  pub depth : before ≡ s.depth
  pub sources : enabled ≡ s.enabled
  pub ends : idle ≡ idle_end s x
  pub writes : wrote ≡ rewrites s x
  pub kept : w.strays ≡ 32 → keeps t s ≡ true
