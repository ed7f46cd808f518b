-- That `draw` of src/lib.rt keeps its contract.
use Rattle.text.proofs.WriteLaws.{and_then, write-laid}
use Rattle.text.specs.Phrases.{bytes}
use Rattle.text.specs.Text.{write}
use mathlib.Core.Path.{ap, ◌∙◌}
use Rattle.drawing.proofs.BarLaws.{drawing-made}
use Rattle.drawing.proofs.draw.Goals as goal

pub returns : goal.returns
unfolding bytes
returns c =
    and_then _ _ _
    (and_then _ _ _
    (and_then _ _ _
    (and_then _ _ _ (and_then _ _ _ c.put_head-a.ensures c.put_rows-b.ensures) c.put_columns-c.ensures)
    c.put_stayed-d.ensures)
    c.put_opened-e.ensures)
    c.put_all.ensures
    ∙ ap (write _) (drawing-made _ _ _ _ _ c.steps_of-n.ensures)
    ∙ write-laid _ _
