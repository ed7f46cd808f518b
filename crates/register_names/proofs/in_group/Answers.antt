-- That `in_group` of src/lib.rt keeps its contract.
use borrow.Author.Rules.{rules}
use Rattle.register_names.proofs.RowLaws.{below-group, from-group}
use Rattle.register_names.proofs.in_group.Goals as goal

pub returns-then-o-first : goal.returns-then-o-first
returns-then-o-first c = below-group _ _ _ _ c.if-o-first.true

pub returns : goal.returns
returns c = from-group _ _ _ _ (search rules)
