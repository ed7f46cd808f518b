-- That `put_bar` of src/shapes.rt keeps its contract.
use Rattle.drawing.specs.Shapes.{bar}
use Rattle.text.specs.Text.{write}
use Rattle.words.proofs.ChoiceLaws.{pick_true, pick-false}
use borrow.Author.Tests.{eq-eqb, ne_eqb}
use mathlib.Core.Path.{ap, ◌∙◌}
use Rattle.drawing.proofs.shapes.put_bar.Goals as goal

pub returns-then-source-eq0 : goal.returns-then-source-eq0
unfolding bar
returns-then-source-eq0 c =
    c.put_mark.ensures ∙ rw c.top-y.ensures (ap (write _) (pick_true _ (eq-eqb _ _ c.if-source-eq0.true)))

pub returns : goal.returns
unfolding bar
returns c =
    c.put_handler.ensures ∙ rw c.top-y.ensures (ap (write _) (pick-false _ (ne_eqb _ _ c.if-source-eq0.false)))
