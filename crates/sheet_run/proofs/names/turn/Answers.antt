-- That `turn` of src/names.rt keeps its contract.
use native.Mathlib.Omega.{arith}
use lib.Seq.{length-take-le}
use Rattle.std.proofs.lemmas.Result.{IfOk-weaker, IfErr-weaker}
use Rattle.sheet_run.proofs.PutLaws.{put_then}
use Rattle.sheet_run.proofs.names.turn.Goals as goal

pub overflow_sub-end : goal.overflow_sub-end
overflow_sub-end g c = omega (arith, c.in_ok-rest.ensures.within, length-take-le c.args.end c.args.names.now c.requires)

pub returns-clause-put : goal.returns-clause-put
returns-clause-put g c = IfOk-weaker _ _ _ (λ after p. put_then _ c.in_ok-rest.ensures.put (p _)) c.settle.ensures.put

pub returns-clause-stopped : goal.returns-clause-stopped
returns-clause-stopped g c = IfErr-weaker _ _ _ (λ e p. put_then _ c.in_ok-rest.ensures.put (p _)) c.settle.ensures.stopped
