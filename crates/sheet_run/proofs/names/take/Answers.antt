-- That `take` of src/names.rt keeps its contract.
use Rattle.sheet_run.proofs.PutLaws.{put_then}
use Rattle.sheet_run.proofs.names.take.Goals as goal

pub returns : goal.returns
returns g c = put_then _ c.in_ok-s.ensures.put c.pass.ensures
