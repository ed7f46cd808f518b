-- That `with_number` of src/lib.rt keeps its contract.
use Rattle.kinds.specs.Configuration.{with_number}
use Rattle.kinds.proofs.ConfigurationLaws.{number_past}
use borrow.Author.Rules.{rules}
use Rattle.kinds.proofs.with_number.Goals as goal

pub returns-then-nth-ge5 : goal.returns-then-nth-ge5
returns-then-nth-ge5 c = number_past c.args.c c.args.nth _ (search rules) c.if-nth-ge5.true

pub returns : goal.returns
unfolding with_number
returns c = search rules
