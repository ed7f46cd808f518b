-- That `put_ending` of src/rows.rt keeps its contract.
use Rattle.text.specs.Phrases.{bytes}
use Rattle.sheet.specs.Rows.{ending}
use Rattle.text.proofs.WriteLaws.{and_then, same_length as same_len}
use Rattle.sheet.proofs.rows.put_ending.Goals as goal

pub returns : goal.returns
unfolding ending bytes
returns c =
    and_then _ _ _ (and_then _ _ _ (and_then _ _ _ c.put_all-a.ensures c.put_ended-b.ensures) c.put_remark-c.ensures) c.put_all.ensures

pub shape_of-out : goal.shape_of-out
shape_of-out c = same_len _ _ _ (returns c)
