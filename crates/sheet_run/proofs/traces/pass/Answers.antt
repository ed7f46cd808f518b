-- That `pass` of src/traces.rt keeps its contract.
use mathlib.Core.Path.{refl}
use Rattle.sheet_run.proofs.PutLaws.{put-none}
use Rattle.sheet_run.proofs.traces.pass.Goals as goal

pub returns-then-skipping : goal.returns-then-skipping
returns-then-skipping g c = put-none _ _ _ refl
