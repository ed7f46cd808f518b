-- That `all_names` of src/names.rt keeps its contract.
use mathlib.Core.Path.{◌≡◌, refl}
use native.Mathlib.Omega.{arith}
use Rattle.std.specs.declared.result.Result.TheVariants.{Err}
use Rattle.sheet_run.proofs.PutLaws.{put-none, put_then}
use Rattle.sheet_run.proofs.names.all_names.Goals as goal

pub loop-init : goal.loop-init
loop-init g c = (omega arith, refl, put-none _ _ _ refl)

pub loop-preserved : goal.loop-preserved
loop-preserved g c = (c.in_ok-s.ensures.within, omega arith, put_then _ c.loop.invariant.2 c.in_ok-s.ensures.put)

pub returns-in_err-came-clause-stopped : goal.returns-in_err-came-clause-stopped
returns-in_err-came-clause-stopped g c =
    let h : c.from_residual.result ≡ Err c.in_err-came.field-0.0 = grind arith in
    rw h (put_then _ c.loop.invariant.2 (put-none _ _ _ c.in_err-came.ensures.stopped))

pub returns-in_err-s-clause-stopped : goal.returns-in_err-s-clause-stopped
returns-in_err-s-clause-stopped g c =
    let h : c.from_residual-in_err-s.result ≡ Err c.in_err-s.field-0.0 = grind arith in
    rw h (put_then _ c.loop.invariant.2 c.in_err-s.ensures.stopped)
