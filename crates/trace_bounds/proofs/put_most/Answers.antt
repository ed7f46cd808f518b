-- That `put_most` of src/lib.rt keeps its contract.
use mathlib.Core.Path.{ap, ◌∙◌}
use Rattle.text.specs.Text.{write}
use Rattle.text.proofs.WriteLaws.{and_then, nothing}
use Rattle.text.specs.Phrases.{bytes}
use Rattle.trace_bounds.proofs.LineLaws.{some-most, no-most}
use Rattle.trace_bounds.proofs.put_most.Goals as goal

pub returns-then-unbounded-begun : goal.returns-then-unbounded-begun
unfolding bytes
returns-then-unbounded-begun c =
    and_then _ _ _ c.put_all-a.ensures c.put_decimal.ensures ∙ ap (write _) (some-most _ _ _ c.if-unbounded-begun.true)

pub returns : goal.returns
unfolding bytes
returns c = nothing _ ∙ ap (write _) (no-most _ _ _ c.if-unbounded-begun.false)
