-- That `put_term` of src/sources.rt keeps its contract.
use Rattle.text.specs.Phrases.{bytes}
use Rattle.sheet.specs.Sources.{term}
use Rattle.text.specs.Text.{write}
use Rattle.words.proofs.ChoiceLaws.{pick-false, pick_true}
use mathlib.Core.Path.{◌∙◌, ap}
use Rattle.sheet.proofs.sources.put_term.Goals as goal

pub returns-then-told : goal.returns-then-told
unfolding term bytes
returns-then-told c =
    c.put_source_cell.ensures ∙ ap (write _) (pick_true _ c.if-told.true)

pub returns : goal.returns
unfolding term bytes
returns c =
    c.put_empty_cell.ensures ∙ ap (write _) (pick-false _ c.if-told.false)
