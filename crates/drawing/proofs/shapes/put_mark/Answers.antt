-- That `put_mark` of src/shapes.rt keeps its contract.
use Rattle.text.proofs.WriteLaws.{and_then, same_length as same_len}
use Rattle.text.specs.Phrases.{bytes}
use Rattle.drawing.specs.Shapes.{mark}
use Rattle.drawing.proofs.shapes.put_mark.Goals as goal

pub returns : goal.returns
unfolding mark bytes
returns c =
    and_then _ _ _
    (and_then _ _ _ (and_then _ _ _ c.put_box-a.ensures c.put_counted-b.ensures) c.put_counted-c.ensures)
    c.put_all.ensures

pub shape_of-out : goal.shape_of-out
shape_of-out c = same_len _ _ _ (returns c)
