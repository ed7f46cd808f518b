-- That `put_counted` of src/rows.rt keeps its contract.
use Rattle.text.specs.Phrases.{bytes}
use Rattle.sheet.specs.Rows.{trace_row}
use Rattle.text.proofs.WriteLaws.{and_then, same_length as same_len}
use Rattle.sheet.proofs.rows.put_counted.Goals as goal

pub returns : goal.returns
unfolding trace_row bytes
returns c =
    and_then _ _ _ (and_then _ _ _ (and_then _ _ _ (and_then _ _ _ (and_then _ _ _ (and_then _ _ _ c.put_row_head-a.ensures c.put_cell-b.ensures) c.put_cell-c.ensures) c.put_cell-d.ensures) c.put_cell-e.ensures) c.put_cell-f.ensures) c.put_ending.ensures

pub shape_of-out : goal.shape_of-out
shape_of-out c = same_len _ _ _ (returns c)
