-- That `put_number` of src/cells.rt keeps its contract.
use Rattle.text.specs.Phrases.{counted}
use Rattle.text.proofs.WriteLaws.{and_then, same_length as same_len}
use Rattle.sheet.proofs.cells.put_number.Goals as goal

pub returns : goal.returns
unfolding counted
returns c =
    and_then _ _ _ c.put_all-a.ensures c.put_decimal.ensures

pub shape_of-out : goal.shape_of-out
shape_of-out c = same_len _ _ _ (returns c)
