-- That `edge_at` of src/lib.rt keeps its contract.
use borrow.Author.Rules.{rules}
use Rattle.aic_record.specs.Mode.{edge}
use Rattle.aic_record.proofs.edge_at.Goals as goal

pub returns : goal.returns
unfolding edge
returns c = search rules
