-- That `bounded` of src/sources.rt keeps its contract.
use Rattle.sheet.specs.Sources.{bounded}
use borrow.Author.Rules.{rules}
use Rattle.sheet.proofs.sources.bounded.Goals as goal

pub returns : goal.returns
unfolding bounded
returns c = search rules
