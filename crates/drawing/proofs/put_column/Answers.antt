-- That `put_column` of src/lib.rt keeps its contract.
use Rattle.text.proofs.WriteLaws.{and_then}
use Rattle.drawing.specs.Drawing.{column_text}
use Rattle.drawing.proofs.put_column.Goals as goal

pub returns : goal.returns
unfolding column_text
returns c =
    and_then _ _ _
    (and_then _ _ _ (and_then _ _ _ c.put_active-a.ensures c.put_active-b.ensures) c.put_refused-c.ensures)
    c.put_numbered.ensures
