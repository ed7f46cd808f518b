-- That `lowest` of src/lib.rt keeps its contract.
use Rattle.words.proofs.WordLaws.{lowest-bit}
use borrow.Author.Rules.{rules}
use Rattle.words.proofs.lowest.Goals as goal

pub returns : goal.returns
returns c = lowest-bit 32 _ (search rules)
