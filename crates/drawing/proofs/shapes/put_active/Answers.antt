-- That `put_active` of src/shapes.rt keeps its contract.
use Rattle.drawing.specs.Shapes.{active}
use Rattle.text.specs.Phrases.{bytes}
use Rattle.text.proofs.WriteLaws.{nothing}
use Rattle.text.specs.Text.{write}
use Rattle.words.proofs.ChoiceLaws.{pick_true, pick-false}
use borrow.Author.Tests.{eq-eqb, ne_eqb}
use mathlib.Core.Path.{ap, ◌∙◌}
use Rattle.drawing.proofs.shapes.put_active.Goals as goal

pub returns-then-on-eq0 : goal.returns-then-on-eq0
unfolding active
returns-then-on-eq0 c = nothing _ ∙ ap (write _) (pick_true _ (eq-eqb _ _ c.if-on-eq0.true))

pub returns : goal.returns
unfolding active bytes
returns c =
    c.put_box.ensures ∙ ap (write _) (pick-false _ (ne_eqb _ _ c.if-on-eq0.false))
