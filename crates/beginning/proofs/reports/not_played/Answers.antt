-- That `not_played` of src/reports.rt keeps its contract.
use Rattle.beginning.proofs.PlayLaws.{report-ends}
use Rattle.beginning.proofs.reports.not_played.Goals as goal

pub returns : goal.returns
returns c = report-ends _ _ _ _
