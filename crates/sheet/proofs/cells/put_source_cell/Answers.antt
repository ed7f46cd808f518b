-- That `put_source_cell` of src/cells.rt keeps its contract.
use Rattle.text.specs.Phrases.{bytes}
use Rattle.sheet.specs.Texts.{source_cell}
use Rattle.text.proofs.WriteLaws.{and_then, same_length as same_len}
use Rattle.sheet.proofs.cells.put_source_cell.Goals as goal

pub returns : goal.returns
unfolding source_cell bytes
returns c =
    and_then _ _ _ (and_then _ _ _ c.put_cell_of-a.ensures c.put_amount-b.ensures) c.put_all.ensures

pub shape_of-out : goal.shape_of-out
shape_of-out c = same_len _ _ _ (returns c)
