-- That `play` of src/traces.rt keeps its contract.
use Rattle.report.proofs.PutLaws.{put-none, put_one}
use Rattle.report.proofs.traces.play.Goals as goal

pub returns-then-came : goal.returns-then-came
returns-then-came g c = put-none _ _ _ c.unopened.ensures

pub returns : goal.returns
returns g c = put_one _ _ _ c.put_to.ensures
