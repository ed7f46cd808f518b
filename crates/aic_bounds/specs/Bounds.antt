-- The bound of a wait of one source, told apart by its six terms and moved on step by step.
use Rattle.std.specs.Prelude.{ℕ, ◌+◌, Bool, not, ◌&&◌, List, [], ◌∷◌, eqb, ltb}
use Rattle.words.specs.Choice.{pick}
use Rattle.words.specs.Counting.{one}
use Rattle.words.specs.Word.{bit, word_of, either, both, without}
use Rattle.steps.specs.declared.Step.{Step}
use Rattle.aic_record.specs.declared.Aic.{Aic}
use Rattle.aic_record.specs.Mode.{edge}
use Rattle.aic.specs.Model.{step}
use Rattle.aic_runs.specs.Counted.{carries, rises, edges, commands, rewrites}
use Rattle.aic_runs.specs.Runs.{sum_over}
use Rattle.aic_runs.specs.Promises.{rival_of}
use Rattle.aic_runs.specs.Turns.{closes_hot, due}
use Rattle.aic_waits.specs.Figures.{wait_after}
use Rattle.aic_bounds.specs.declared.Bound.{Bound}

-- ---- what a step brings to a rival

-- a set command to source i, while it is edge-triggered (02, 12/12)
unfoldable pub sets : ℕ → Aic → Step → Bool
sets i s x = commands i s x && edge s i

-- the line of source i turns active, while it is level-sensitive (02, 12/12)
unfoldable pub lifts : ℕ → Aic → Step → Bool
lifts i s x = rises i s x && not (edge s i)

-- ---- what is observed of source k

-- it does not wait
abbrev pub idle : ℕ → Bound
idle w = record { wait = w; rivals = 0; on = 0; pending = 0; edges = 0; commands = 0; turns = 0; closed = 0; remembered = 0; broke = 0 }

-- the rivals of source k: the sources ahead of it that are not fast (demand 3); and those of a word that are enabled
abbrev pub rivals_of : ℕ → Aic → ℕ
rivals_of k t = word_of 32 (rival_of t k)

abbrev pub enabled_of : ℕ → Aic → ℕ
enabled_of w t = both w t.enabled

-- its wait begins with the record t: the rivals that are enabled count from there
abbrev pub fresh : ℕ → Aic → Bound
fresh k t =
    record {
      wait = 2;
      rivals = rivals_of k t;
      on = enabled_of (rivals_of k t) t;
      pending = sum_over (bit (enabled_of (rivals_of k t) t)) (due t);
      edges = 0;
      commands = 0;
      turns = 0;
      closed = 0;
      remembered = one (carries k t);
      broke = 0;
    }

-- its wait goes on over the step x, the n-th of the run: what the step brings to those that count, and what those are due that are first enabled after it
abbrev pub grown : ℕ → Bound → ℕ → Aic → Step → Bound
grown w b n s x =
    record {
      wait = w;
      rivals = b.rivals;
      on = either b.on (enabled_of b.rivals (step s x).aic);
      pending = b.pending + sum_over (bit (without (enabled_of b.rivals (step s x).aic) b.on)) (due (step s x).aic);
      edges = b.edges + sum_over (bit b.on) (λ i. one (edges i s x));
      commands = b.commands + sum_over (bit b.on) (λ i. one (sets i s x));
      turns = b.turns + sum_over (bit b.on) (λ i. one (lifts i s x));
      closed = b.closed + sum_over (bit b.on) (λ i. one (closes_hot i s x));
      remembered = b.remembered;
      broke = pick (eqb b.broke 0 && rewrites s x) n b.broke;
    }

-- after the n-th step of a run: w is how it stands then (02, 11/12)
unfoldable pub bound_next : ℕ → ℕ → ℕ → Bound → Aic → Step → Bound
bound_next k w n b s x = pick (ltb w 2) (idle w) (pick (ltb b.wait 2) (fresh k (step s x).aic) (grown w b n s x))

abbrev pub bound_after : ℕ → ℕ → Bound → Aic → Step → Bound
bound_after k n b s x = bound_next k (wait_after k b.wait s x) n b s x

-- after a run, n steps having gone before
unfoldable pub bound_over : ℕ → ℕ → Bound → Aic → List Step → Bound
bound_over k n b s [] = b
bound_over k n b s (x ∷ xs) = bound_over k (n + 1) (bound_after k (n + 1) b s x) (step s x).aic xs

-- from a record in which it does not wait, as after reset
unfoldable pub bound_at : ℕ → Aic → List Step → Bound
bound_at k s xs = bound_over k 0 (idle 0) s xs

-- the bound so far: handlers
unfoldable pub bound_of : Bound → ℕ
bound_of b = b.pending + b.edges + b.commands + b.turns + b.closed + b.remembered
