-- That `meet` of src/lib.rt keeps its contract.
use Rattle.words.proofs.WordLaws.{and-both_bits}
use borrow.Author.Rules.{rules}
use Rattle.words.proofs.meet.Goals as goal

pub returns : goal.returns
returns c = and-both_bits c.args.a c.args.b (search rules) (search rules)
