-- That `play` of src/traces.rt keeps its contract.
use Rattle.sheet_run.proofs.PutLaws.{put_shut, put_trace}
use Rattle.sheet_run.proofs.traces.play.Goals as goal

pub returns-then-came : goal.returns-then-came
returns-then-came g c = put_shut _ _ _ c.unopened.ensures

pub returns : goal.returns
returns g c = put_trace _ _ _ _ c.put_to.ensures
