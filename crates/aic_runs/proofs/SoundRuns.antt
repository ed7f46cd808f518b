-- A run keeps a sound record sound, so none of its steps is refused by 12.
use mathlib.Core.Path.{◌≡◌}
use mathlib.Core.Bool.{true}
use mathlib.Core.List.{List, [], ◌∷◌}
use mathlib.Core.Logic.{◌≢◌}
use Rattle.words.proofs.TruthLaws.{clash}
use Rattle.steps.specs.declared.Step.{Step}
use Rattle.steps.specs.declared.Step.TheVariants.{Read, Write, Line}
use Rattle.steps.specs.Refusals.{unsound}
use Rattle.aic_record.specs.declared.Aic.{Aic}
use Rattle.aic_record.specs.Sound.{sound}
use Rattle.aic_record.specs.Promises.{Shaped}
use Rattle.aic.specs.Model.{step}
use Rattle.aic.proofs.Promises as Controller
use Rattle.aic_runs.specs.Runs.{run}

pub run_sound : (s : Aic) (xs : List Step) → Shaped s → sound s ≡ true → sound (run s xs) ≡ true
unfolding run
run_sound s [] h ok = ok
run_sound s (x ∷ xs) h ok = run_sound (step s x).aic xs ((Controller.kept).step_shaped s x h) ((Controller.kept).step_sound s x h ok)

pub never_twelve : (s : Aic) (x : Step) → sound s ≡ true → (step s x).refusal ≢ unsound
never_twelve s (Read o) ok e = clash ok (((Controller.kept).read_numbers s o).twelve.0 e)
never_twelve s (Write o v) ok e = clash ok (((Controller.kept).write_numbers s o v).twelve.0 e)
never_twelve s (Line k l) ok e = clash ok (((Controller.kept).line_numbers s k l).twelve.0 e)
