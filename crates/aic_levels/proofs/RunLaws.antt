-- Along every run a record with its levels answers what the record alone does.
use mathlib.Core.Path.{◌≡◌, refl, ap₂}
use mathlib.Core.Bool.{true}
use mathlib.Core.List.{List, [], ◌∷◌, map}
use Rattle.steps.specs.declared.Step.{Step}
use Rattle.aic_record.specs.declared.Aic.{Aic}
use Rattle.aic_record.specs.Sound.{sound}
use Rattle.aic_record.specs.Promises.{Shaped}
use Rattle.aic.specs.declared.Signals.{Signals}
use Rattle.aic.specs.Model as aic
use Rattle.aic.proofs.SoundLaws.{step-sound, step_shaped}
use Rattle.aic_levels.specs.declared.Levels.{Levels}
use Rattle.aic_levels.specs.declared.Answer.{Answer}
use Rattle.aic_levels.specs.Levels.{levels_of, agrees}
use Rattle.aic_levels.specs.Runs.{run_of, run_with, besides}
use Rattle.aic_levels.proofs.StepLaws.{own_agree, step_same, outputs-same}

-- one step and a run after it
next : (s : Aic) (l : Levels) (x : Step) (xs : List Step) → Shaped s → sound s ≡ true → agrees s l ≡ true
    → run_with (aic.step s x).aic (levels_of (aic.step s x).aic) xs ≡ map besides (run_of (aic.step s x).aic xs)
    → run_with s l (x ∷ xs) ≡ map besides (run_of s (x ∷ xs))
unfolding run_with run_of besides
next s l x xs z h a r =
    let t = (aic.step s x).aic in
    rw (step_same s l x h a)
    (ap₂ (λ (o : Signals) (rest : List (Answer × Signals)). (record { refusal = (aic.step s x).refusal; value = (aic.step s x).value; aic = t; levels = levels_of t }, o) ∷ rest)
    (outputs-same t (levels_of t) (step-sound s x z h) (own_agree t)) r)

pub runs_same : (s : Aic) (l : Levels) (xs : List Step) → Shaped s → sound s ≡ true → agrees s l ≡ true → run_with s l xs ≡ map besides (run_of s xs)
unfolding run_with run_of
runs_same s l [] z h a = refl
runs_same s l (x ∷ xs) z h a =
    let t = (aic.step s x).aic in
    next s l x xs z h a (runs_same t (levels_of t) xs (step_shaped s x z) (step-sound s x z h) (own_agree t))
