-- That `put_bound` of src/lib.rt keeps its contract.
use mathlib.Core.Path.{ap, ◌∙◌}
use Rattle.text.specs.Text.{write}
use Rattle.text.proofs.WriteLaws.{and_then}
use Rattle.text.specs.Phrases.{bytes}
use Rattle.trace_bounds.proofs.LineLaws.{bound-made, no_bound}
use Rattle.trace_bounds.proofs.put_bound.Goals as goal

pub returns-then-b-eq0 : goal.returns-then-b-eq0
unfolding bytes
returns-then-b-eq0 c =
    bound-made _ _ _ c.bound_of.ensures c.if-b-eq0.true
    (and_then _ _ _ (and_then _ _ _ c.put_all-c.ensures c.put_decimal-d.ensures) c.put_terms.ensures)

pub returns : goal.returns
unfolding bytes
returns c = c.put_counted.ensures ∙ ap (write _) (no_bound _ c.if-b-eq0.false)
