-- That `put_row_head` of src/rows.rt keeps its contract.
use Rattle.text.specs.Phrases.{bytes}
use Rattle.sheet.specs.Rows.{row_head}
use Rattle.text.proofs.WriteLaws.{and_then, same_length as same_len}
use Rattle.sheet.proofs.rows.put_row_head.Goals as goal

pub returns : goal.returns
unfolding row_head bytes
returns c =
    and_then _ _ _ (and_then _ _ _ (and_then _ _ _ c.put_counted-a.ensures c.put_all-b.ensures) c.put_escaped-c.ensures) c.put_all.ensures

pub shape_of-out : goal.shape_of-out
shape_of-out c = same_len _ _ _ (returns c)
