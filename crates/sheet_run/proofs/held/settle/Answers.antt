-- That `settle` of src/held.rt keeps its contract.
use mathlib.Core.Path.{◌≡◌, refl}
use native.Mathlib.Omega.{arith}
use Rattle.std.specs.declared.result.Result.TheVariants.{Err}
use Rattle.sheet_run.proofs.PutLaws.{put-none, put_shut}
use Rattle.sheet_run.proofs.held.settle.Goals as goal

pub returns-then-skipping-clause-put : goal.returns-then-skipping-clause-put
returns-then-skipping-clause-put g c = λ t. put-none t _ _ refl

pub returns-then-held-names-clause-put : goal.returns-then-held-names-clause-put
returns-then-held-names-clause-put g c = λ t. put-none t _ _ refl

pub returns-clause-put : goal.returns-clause-put
returns-clause-put g c = λ t. put_shut t _ _ c.in_ok-told.ensures

pub returns-in_err-told-clause-stopped : goal.returns-in_err-told-clause-stopped
returns-in_err-told-clause-stopped g c =
    let h : c.from_residual.result ≡ Err c.in_err-told.field-0.0 = grind arith in
    rw h (λ t. put_shut t _ _ c.in_err-told.ensures)
