-- That `put_cell` of src/cells.rt keeps its contract.
use Rattle.text.specs.Phrases.{bytes}
use Rattle.sheet.specs.Texts.{cell}
use Rattle.text.proofs.WriteLaws.{and_then, same_length as same_len}
use Rattle.sheet.proofs.cells.put_cell.Goals as goal

pub returns : goal.returns
unfolding cell bytes
returns c =
    and_then _ _ _ (and_then _ _ _ (and_then _ _ _ (and_then _ _ _ c.put_all-a.ensures c.put_all-b.ensures) c.put_all-c.ensures) c.put_amount-d.ensures) c.put_all.ensures

pub shape_of-out : goal.shape_of-out
shape_of-out c = same_len _ _ _ (returns c)
