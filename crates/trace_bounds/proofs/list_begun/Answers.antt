-- That `list_begun` of src/lib.rt keeps its contract.
use mathlib.Core.Path.{ap, ◌∙◌}
use Rattle.text.specs.Text.{laid}
use Rattle.trace_bounds.proofs.ListLaws.{no-waits, not_aic}
use Rattle.trace_bounds.proofs.list_begun.Goals as goal

pub returns-then-b-ne-AIC : goal.returns-then-b-ne-AIC
returns-then-b-ne-AIC c = (
  c.put_no_waits-n.ensures ∙ ap (laid _) (no-waits _ _ _ c.requires.0 c.requires.1 c.if-b-ne-AIC.true),
  not_aic _ _ _ c.requires.0 c.requires.1 c.if-b-ne-AIC.true,
)
