-- That `last_level` of src/last.rt keeps its contract.
use Rattle.aic_record.specs.Last.{last_level}
use borrow.Author.Rules.{rules}
use Rattle.aic_record.proofs.last.last_level.Goals as goal

pub returns : goal.returns
unfolding last_level
returns c = search rules
