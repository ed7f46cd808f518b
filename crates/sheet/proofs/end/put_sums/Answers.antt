-- That `put_sums` of src/end.rt keeps its contract.
use Rattle.text.specs.Phrases.{bytes}
use Rattle.sheet.specs.End.{sums}
use Rattle.text.proofs.WriteLaws.{and_then, same_length as same_len}
use Rattle.sheet.proofs.end.put_sums.Goals as goal

pub returns : goal.returns
unfolding sums bytes
returns c =
    and_then _ _ _ (and_then _ _ _ (and_then _ _ _ (and_then _ _ _ c.put_row-a.ensures c.put_row-b.ensures) c.put_row-c.ensures) c.put_row-d.ensures) c.put_row.ensures

pub shape_of-out : goal.shape_of-out
shape_of-out c = same_len _ _ _ (returns c)
