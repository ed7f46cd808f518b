-- That `put_shown` of src/lib.rt keeps its contract.
use mathlib.Core.Path.{ap, ◌∙◌}
use Rattle.text.specs.Text.{write}
use Rattle.text.proofs.WriteLaws.{nothing}
use Rattle.words.proofs.ChoiceLaws.{by-true, by-false}
use Rattle.explain.proofs.put_shown.Goals as goal

pub returns-then-shows : goal.returns-then-shows
returns-then-shows c = c.put_step_line.ensures ∙ ap (write _) (by-true _ c.shows.ensures c.if-shows.true)

pub returns : goal.returns
returns c = nothing _ ∙ ap (write _) (by-false _ c.shows.ensures c.if-shows.false)
