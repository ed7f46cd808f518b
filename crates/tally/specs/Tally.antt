-- The figures of a trace (02, 11/12): the steps played and refused, and of an AIC what each source did over them.
use Rattle.std.specs.Prelude.{ℕ, zero, suc, ◌+◌, not, List, [], ◌∷◌, map, eqb}
use Rattle.words.specs.Choice.{pick}
use Rattle.words.specs.Counting.{one}
use Rattle.steps.specs.Refusals.{carried_out}
use Rattle.steps.specs.declared.Recorded.{Recorded}
use Rattle.steps.specs.declared.Step.{Step}
use Rattle.kinds.specs.Kinds.{aic_kind}
use Rattle.machine.specs.declared.record.Machine.{Machine}
use Rattle.machine.specs.Steps.{step}
use Rattle.beginning.specs.Begin.{begin_of}
use Rattle.beginning.specs.Play.{records_of, play_of}
use Rattle.aic_waits.specs.Figures.{started_of, waited_of, entries_of}
use Rattle.totals.specs.declared.Totals.{Totals}
use Rattle.totals.specs.Totals.{zeros}
use Rattle.tally.specs.declared.Tallied.{Tallied}

-- how many of some step records the machine refuses as they are played (02, 11/12): steps
unfoldable pub refused_in : Machine → List Recorded → ℕ
refused_in m [] = 0
refused_in m (x ∷ xs) = one (not (eqb (step m x).refusal carried_out)) + refused_in (step m x).machine xs

-- the steps of step records: an AIC does not ask by which privilege a step is made (02, 2/12)
abbrev pub steps_in : List Recorded → List Step
steps_in xs = map (λ (x : Recorded). x.step) xs

-- a figure of each of n sources, from source i on
unfoldable pub each_from : ℕ → ℕ → (ℕ → ℕ) → List ℕ
each_from zero i f = []
each_from (suc n) i f = f i ∷ each_from n (i + 1) f

-- of each of the 32
abbrev pub each : (ℕ → ℕ) → List ℕ
each f = each_from 32 0 f

-- the figures of the 32 sources over some step records: of an AIC those of the run from its record, of other kinds 0 (02, 11/12): handlers, handlers, entries
unfoldable pub figures_of : Machine → List Recorded → Totals
figures_of m xs =
    pick (eqb m.kind aic_kind)
    (record {
      started = each (λ i. started_of i m.aic (steps_in xs));
      waited = each (λ i. waited_of i m.aic (steps_in xs));
      entries = each (λ i. entries_of i m.aic (steps_in xs));
    })
    zeros

-- those of a trace, over the steps that are played of it: up to its end, or to where it ends in E (02, 11/12)
unfoldable pub tally_of : List ℕ → ℕ → Tallied
tally_of s limit =
    record {
      steps = (play_of s limit).steps;
      refused = refused_in (begin_of s).machine (records_of s limit).steps;
      refusal = (play_of s limit).refusal;
      offset = (play_of s limit).offset;
      figures = figures_of (begin_of s).machine (records_of s limit).steps;
    }
