-- That `opening` of src/lib.rt keeps its contract.
use Rattle.lines.proofs.BehindLaws.{opening-bytes}
use borrow.Author.Rules.{rules}
use Rattle.lines.proofs.opening.Goals as goal

pub returns : goal.returns
returns c = opening-bytes c.args.letter c.args.digits (search rules)
