-- That `put_amount` of src/cells.rt keeps its contract.
use Rattle.text.specs.Phrases.{bytes}
use Rattle.sheet.specs.Texts.{amount}
use Rattle.text.proofs.WriteLaws.{and_then, same_length as same_len}
use Rattle.sheet.proofs.cells.put_amount.Goals as goal

pub returns : goal.returns
unfolding amount bytes
returns c =
    and_then _ _ _ (and_then _ _ _ c.put_decimal-a.ensures c.put_all-b.ensures) c.put_all.ensures

pub shape_of-out : goal.shape_of-out
shape_of-out c = same_len _ _ _ (returns c)
