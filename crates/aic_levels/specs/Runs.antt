-- Runs, any list of steps: what each step answers and the outputs after it, of a record alone and of a record with its levels.
use Rattle.std.specs.Prelude.{List, [], ◌∷◌}
use Rattle.steps.specs.declared.Step.{Step}
use Rattle.aic_record.specs.declared.Aic.{Aic}
use Rattle.aic_registers.specs.declared.Answer as alone
use Rattle.aic.specs.declared.Signals.{Signals}
use Rattle.aic.specs.Model as aic
use Rattle.aic_levels.specs.declared.Levels.{Levels}
use Rattle.aic_levels.specs.declared.Answer.{Answer}
use Rattle.aic_levels.specs.Levels.{levels_of}
use Rattle.aic_levels.specs.Model.{step_with, outputs_with}

-- of a record alone (01, House trace)
unfoldable pub run_of : Aic → List Step → List (alone.Answer × Signals)
run_of s [] = []
run_of s (x ∷ xs) = (aic.step s x, aic.outputs (aic.step s x).aic) ∷ run_of (aic.step s x).aic xs

-- of a record with its levels beside it (02, 5/12)
unfoldable pub run_with : Aic → Levels → List Step → List (Answer × Signals)
run_with s l [] = []
run_with s l (x ∷ xs) =
    (step_with s l x, outputs_with (step_with s l x).aic (step_with s l x).levels) ∷ run_with (step_with s l x).aic (step_with s l x).levels xs

-- an answer of the record alone, with the levels of the record after it
unfoldable pub besides : alone.Answer × Signals → Answer × Signals
besides r = (record { refusal = r.0.refusal; value = r.0.value; aic = r.0.aic; levels = levels_of r.0.aic }, r.1)
