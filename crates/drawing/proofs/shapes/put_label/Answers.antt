-- That `put_label` of src/shapes.rt keeps its contract.
use Rattle.text.proofs.WriteLaws.{and_then, same_length as same_len}
use Rattle.text.specs.Phrases.{bytes}
use Rattle.text.specs.Text.{write}
use mathlib.Core.Path.{ap, ◌∙◌}
use Rattle.drawing.proofs.LabelLaws.{label-made}
use Rattle.drawing.proofs.shapes.put_label.Goals as goal

pub returns : goal.returns
unfolding bytes
returns c =
    and_then _ _ _
    (and_then _ _ _
    (and_then _ _ _ (and_then _ _ _ c.put_counted-a.ensures c.put_counted-b.ensures) c.put_all-c.ensures)
    c.put_counted-d.ensures)
    c.put_all.ensures
    ∙ ap (write _) (label-made _ _ _ _)

pub shape_of-out : goal.shape_of-out
shape_of-out c = same_len _ _ _ (returns c)
