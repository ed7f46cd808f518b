-- That `count` of src/lib.rt keeps its contract.
use Rattle.words.proofs.WordLaws.{ones-count}
use borrow.Author.Rules.{rules}
use Rattle.words.proofs.count.Goals as goal

pub returns : goal.returns
returns c = ones-count 32 _ (search rules)
