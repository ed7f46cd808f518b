-- That `inside` of src/lib.rt keeps its contract.
use Rattle.picture.specs.Picture.{inside}
use borrow.Author.Rules.{rules}
use Rattle.picture.proofs.inside.Goals as goal

pub returns : goal.returns
unfolding inside
returns c = search rules
