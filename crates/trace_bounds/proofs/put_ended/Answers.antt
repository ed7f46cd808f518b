-- That `put_ended` of src/lib.rt keeps its contract.
use mathlib.Core.Path.{ap, ◌∙◌}
use Rattle.text.specs.Text.{write}
use Rattle.text.specs.Phrases.{bytes}
use Rattle.trace_bounds.proofs.LineLaws.{not-ended, ended_by}
use Rattle.trace_bounds.proofs.put_ended.Goals as goal

pub returns-then-ended-eq0 : goal.returns-then-ended-eq0
unfolding bytes
returns-then-ended-eq0 c = c.put_all.ensures ∙ ap (write _) (not-ended _ c.if-ended-eq0.true)

pub returns : goal.returns
unfolding bytes
returns c = c.put_counted.ensures ∙ ap (write _) (ended_by _ c.if-ended-eq0.false)
