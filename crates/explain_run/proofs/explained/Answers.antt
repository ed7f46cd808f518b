-- That `explained` of src/main.rt keeps its contract.
use mathlib.Core.Path.{ap, ◌∙◌}
use Rattle.text.specs.Text.{laid}
use Rattle.words.proofs.ChoiceLaws.{pick_true, pick-false}
use Rattle.explain_run.proofs.explained.Goals as goal

pub returns-then-whole : goal.returns-then-whole
returns-then-whole c = c.explain.ensures ∙ ap (laid _) (pick_true _ c.if-whole.true)

pub returns : goal.returns
returns c = c.explain_window.ensures ∙ ap (laid _) (pick-false _ c.if-whole.false)
