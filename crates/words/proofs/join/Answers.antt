-- That `join` of src/lib.rt keeps its contract.
use Rattle.words.proofs.WordLaws.{or-either}
use borrow.Author.Rules.{rules}
use Rattle.words.proofs.join.Goals as goal

pub returns : goal.returns
returns c = or-either c.args.a c.args.b (search rules) (search rules)
