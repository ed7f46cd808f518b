-- That `take` of src/names.rt keeps its contract.
use Prim.Native.Nat.{◌+◌}
use Rattle.report.proofs.PutLaws.{put_then}
use Rattle.report.proofs.names.take.Goals as goal

pub returns : goal.returns
returns g c = let a = c.all_names-s.ensures.1 in
    (a.0 + _, put_then a.1 c.pass.ensures)
