-- That `put_ahead` of src/sources.rt keeps its contract.
use Rattle.text.specs.Phrases.{bytes}
use Rattle.sheet.specs.Sources.{ahead_cell}
use Rattle.text.specs.Text.{write}
use Rattle.words.proofs.ChoiceLaws.{by-false, by-true}
use mathlib.Core.Path.{◌∙◌, ap}
use Rattle.sheet.proofs.sources.put_ahead.Goals as goal

pub returns-then-is_normal : goal.returns-then-is_normal
unfolding ahead_cell bytes
returns-then-is_normal c =
    rw (← c.ahead_of-n.ensures)
    (c.put_source_cell.ensures ∙ ap (write _) (by-true _ c.is_normal.ensures c.if-is_normal.true))

pub returns : goal.returns
unfolding ahead_cell bytes
returns c =
    c.put_empty_cell.ensures ∙ ap (write _) (by-false _ c.is_normal.ensures c.if-is_normal.false)
