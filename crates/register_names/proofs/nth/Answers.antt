-- That `nth` of src/lib.rt keeps its contract.
use Rattle.register_names.proofs.TableLaws.{before-first}
use borrow.Author.Rules.{rules}
use Rattle.register_names.proofs.nth.Goals as goal

pub returns-then-o-first : goal.returns-then-o-first
returns-then-o-first c = before-first _ _ _ c.if-o-first.true (search rules)
