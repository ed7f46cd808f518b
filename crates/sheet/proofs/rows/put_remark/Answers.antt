-- That `put_remark` of src/rows.rt keeps its contract.
use Rattle.text.specs.Phrases.{bytes}
use Rattle.sheet.specs.Rows.{remark}
use Rattle.text.specs.Text.{write}
use Rattle.words.proofs.ChoiceLaws.{pick-false, pick_true}
use mathlib.Core.Path.{◌∙◌, ap}
use Rattle.sheet.proofs.rows.put_remark.Goals as goal

pub returns-then-aic : goal.returns-then-aic
unfolding remark bytes
returns-then-aic c =
    c.put_enabling.ensures ∙ ap (write _) (pick_true _ c.if-aic.true)

pub returns : goal.returns
unfolding remark bytes
returns c =
    c.put_all.ensures ∙ ap (write _) (pick-false _ c.if-aic.false)
