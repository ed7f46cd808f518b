-- That `put_if` of src/order.rt keeps its contract.
use Rattle.text.proofs.WriteLaws.{nothing}
use Rattle.text.specs.Text.{write}
use Rattle.words.proofs.ChoiceLaws.{pick-false, pick_true}
use Rattle.words.specs.Choice.{pick}
use mathlib.Core.Path.{◌∙◌, ap}
use Rattle.sheet.proofs.order.put_if.Goals as goal

pub returns-then-here : goal.returns-then-here
unfolding pick
returns-then-here c =
    c.put.ensures ∙ ap (write _) (pick_true _ c.if-here.true)

pub returns : goal.returns
unfolding pick
returns c =
    nothing _ ∙ ap (write _) (pick-false _ c.if-here.false)
