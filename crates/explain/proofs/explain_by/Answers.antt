-- That `explain_by` of src/lib.rt keeps its contract.
use mathlib.Core.Path.{ap, ◌∙◌}
use Rattle.text.specs.Text.{write}
use Rattle.text.proofs.WriteLaws.{write-laid}
use Rattle.explain.proofs.ExplainLaws.{explained-begun, explained-refused}
use Rattle.explain.proofs.explain_by.Goals as goal

pub returns-then-b-ne-CARRIED_OUT : goal.returns-then-b-ne-CARRIED_OUT
returns-then-b-ne-CARRIED_OUT c = c.put_end.ensures ∙ ap (write _) (explained-refused _ _ _ _ c.begin-b.ensures c.if-b-ne-CARRIED_OUT.true) ∙ write-laid _ _

pub returns : goal.returns
returns c = c.put_begun.ensures ∙ ap (write _) (explained-begun _ _ _ _ c.begin-b.ensures c.if-b-ne-CARRIED_OUT.false) ∙ write-laid _ _
