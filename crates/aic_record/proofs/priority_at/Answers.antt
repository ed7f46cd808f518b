-- That `priority_at` of src/lib.rt keeps its contract.
use borrow.Author.Rules.{rules}
use Rattle.aic_record.specs.Mode.{priority}
use Rattle.aic_record.proofs.priority_at.Goals as goal

pub returns : goal.returns
unfolding priority
returns c = search rules
