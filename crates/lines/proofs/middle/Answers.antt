-- That `middle` of src/lib.rt keeps its contract.
use Rattle.lines.proofs.BehindLaws.{middle-bytes}
use borrow.Author.Rules.{rules}
use Rattle.lines.proofs.middle.Goals as goal

pub returns : goal.returns
returns c = middle-bytes c.args.digits c.args.first c.args.second (search rules) c.requires.0 c.requires.1
