-- That `put_if` of src/lib.rt keeps its contract.
use mathlib.Core.Path.{ap, ◌∙◌}
use Rattle.text.specs.Text.{write}
use Rattle.text.proofs.WriteLaws.{nothing}
use Rattle.trace_bounds.proofs.LineLaws.{one_line, no_line}
use Rattle.trace_bounds.proofs.put_if.Goals as goal

pub returns-then-there : goal.returns-then-there
returns-then-there c = c.put_wait.ensures ∙ ap (write _) (one_line _ _ c.if-there.true)

pub returns : goal.returns
returns c = nothing _ ∙ ap (write _) (no_line _ _ c.if-there.false)
