-- That `step_by` of src/statements.rt keeps its contract.
use mathlib.Core.Path.{ap, ◌∙◌}
use mathlib.Core.Bool.{Bool}
use Rattle.trace.specs.Steps.{operands_of}
use Rattle.encode.proofs.OpeningLaws.{step_none, step_some}
use borrow.Author.Rules.{rules}
use Rattle.encode.proofs.statements.step_by.Goals as goal

pub returns-in_default : goal.returns-in_default
returns-in_default c = step_none c.args.kind _ (search rules)

pub returns : goal.returns
returns c =
    step_some c.args.kind _ _ _ c.in-Some.ensures (c.operands.ensures ∙ ap (λ (b : Bool). operands_of b c.in-Some.step) c.tells_privilege.ensures)
