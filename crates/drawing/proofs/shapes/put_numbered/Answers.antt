-- That `put_numbered` of src/shapes.rt keeps its contract.
use Rattle.drawing.specs.Shapes.{numbered}
use Rattle.text.proofs.WriteLaws.{nothing}
use Rattle.text.specs.Text.{write}
use Rattle.words.proofs.ChoiceLaws.{pick_true, pick-false}
use borrow.Author.Tests.{eq-eqb, ne_eqb}
use mathlib.Core.Path.{ap, ◌∙◌}
use Rattle.drawing.proofs.shapes.put_numbered.Goals as goal

pub returns-then-step-eq0 : goal.returns-then-step-eq0
unfolding numbered
returns-then-step-eq0 c =
    c.put_centred.ensures ∙ ap (write _) (pick_true _ (eq-eqb _ _ c.if-step-eq0.true))

pub returns : goal.returns
unfolding numbered
returns c = nothing _ ∙ ap (write _) (pick-false _ (ne_eqb _ _ c.if-step-eq0.false))
