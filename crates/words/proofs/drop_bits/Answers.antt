-- That `drop_bits` of src/lib.rt keeps its contract.
use Rattle.words.proofs.WordLaws.{and-without}
use borrow.Author.Rules.{rules}
use Rattle.words.proofs.drop_bits.Goals as goal

pub returns : goal.returns
returns c = and-without c.args.a c.args.b (search rules) (search rules)
