-- The waits of a source over a run, in their order: by which step each begins and ends, and what is observed of it last (02, 11/12 and 12/12).
use Rattle.std.specs.Prelude.{ℕ, ◌+◌, Bool, ◌&&◌, List, [], ◌∷◌, ◌++◌, ltb}
use Rattle.words.specs.Choice.{pick}
use Rattle.steps.specs.declared.Step.{Step}
use Rattle.aic_record.specs.declared.Aic.{Aic}
use Rattle.aic.specs.Model.{step}
use Rattle.aic_bounds.specs.declared.Bound.{Bound}
use Rattle.aic_bounds.specs.Bounds.{idle, bound_after}

-- the numbers of the step by which it begins and of the step by which it ends, 0 where the run ends first; what is observed of it before that step
pub record Wait : Type 0 where
  pub began : ℕ
  pub ended : ℕ
  pub bound : Bound

abbrev pub waited : ℕ → ℕ → Bound → Wait
waited began ended b = record { began = began; ended = ended; bound = b }

-- a wait where a test holds, else none
unfoldable pub only_if : Bool → Wait → List Wait
only_if t w = pick t (w ∷ []) []

-- after a step c is observed, and before it b was: a wait that stood ends by it
abbrev pub ends : Bound → Bound → Bool
ends b c = ltb 1 b.wait && ltb c.wait 2

-- the waits of source k that stand or begin, n steps having gone before: b is observed, of a wait that began by this step if it waits
unfoldable pub waits_from : ℕ → ℕ → ℕ → Bound → Aic → List Step → List Wait
waits_from k n began b s [] = only_if (ltb 1 b.wait) (waited began 0 b)
waits_from k n began b s (x ∷ xs) =
    only_if (ends b (bound_after k (n + 1) b s x)) (waited began (n + 1) b)
    ++ waits_from k (n + 1) (pick (ltb b.wait 2) (n + 1) began) (bound_after k (n + 1) b s x) (step s x).aic xs

-- those of a run from a record in which it does not wait, as after reset; the first step of the run is 1
unfoldable pub waits_of : ℕ → Aic → List Step → List Wait
waits_of k s xs = waits_from k 0 0 (idle 0) s xs
