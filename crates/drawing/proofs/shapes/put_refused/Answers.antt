-- That `put_refused` of src/shapes.rt keeps its contract.
use Rattle.drawing.specs.Shapes.{refused}
use Rattle.text.specs.Phrases.{bytes}
use Rattle.text.proofs.WriteLaws.{and_then, nothing}
use Rattle.text.specs.Text.{write}
use Rattle.words.proofs.ChoiceLaws.{pick_true, pick-false}
use borrow.Author.Tests.{eq-eqb, ne_eqb}
use mathlib.Core.Path.{ap, ◌∙◌}
use Rattle.drawing.proofs.shapes.put_refused.Goals as goal

pub returns-then-refusal-eq0 : goal.returns-then-refusal-eq0
unfolding refused
returns-then-refusal-eq0 c = nothing _ ∙ ap (write _) (pick_true _ (eq-eqb _ _ c.if-refusal-eq0.true))

pub returns : goal.returns
unfolding refused bytes
returns c =
    and_then _ _ _ (and_then _ _ _ c.put_counted-a.ensures c.put_all-b.ensures) c.put_centred.ensures
    ∙ ap (write _) (pick-false _ (ne_eqb _ _ c.if-refusal-eq0.false))
