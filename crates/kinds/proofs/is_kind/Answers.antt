-- That `is_kind` of src/lib.rt keeps its contract.
use Rattle.kinds.specs.Kinds.{is_kind}
use borrow.Author.Rules.{rules}
use Rattle.kinds.proofs.is_kind.Goals as goal

pub returns : goal.returns
unfolding is_kind
returns c = search rules
