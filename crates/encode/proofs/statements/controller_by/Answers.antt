-- That `controller_by` of src/statements.rt keeps its contract.
use Rattle.encode.proofs.OpeningLaws.{controller_none, controller_some}
use borrow.Author.Rules.{rules}
use Rattle.encode.proofs.statements.controller_by.Goals as goal

pub returns-in_default : goal.returns-in_default
returns-in_default c = controller_none _ (search rules)

pub returns : goal.returns
returns c = controller_some _ _ _ c.in-Some.ensures c.wanted.ensures
