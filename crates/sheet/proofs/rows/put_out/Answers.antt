-- That `put_out` of src/rows.rt keeps its contract.
use Rattle.text.specs.Phrases.{bytes}
use Rattle.sheet.specs.Rows.{left_out_row}
use Rattle.text.proofs.WriteLaws.{and_then, same_length as same_len}
use Rattle.sheet.proofs.rows.put_out.Goals as goal

pub returns : goal.returns
unfolding left_out_row bytes
returns c =
    and_then _ _ _ (and_then _ _ _ (and_then _ _ _ c.put_row_head-a.ensures c.put_all-b.ensures) c.put_reason-c.ensures) c.put_all.ensures

pub shape_of-out : goal.shape_of-out
shape_of-out c = same_len _ _ _ (returns c)
