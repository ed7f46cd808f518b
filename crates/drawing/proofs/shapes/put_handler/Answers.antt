-- That `put_handler` of src/shapes.rt keeps its contract.
use Rattle.text.proofs.WriteLaws.{and_then, same_length as same_len}
use Rattle.text.specs.Phrases.{bytes}
use Rattle.drawing.specs.Shapes.{handler}
use Rattle.drawing.proofs.shapes.put_handler.Goals as goal

pub returns : goal.returns
unfolding handler bytes
returns c =
    and_then _ _ _ (and_then _ _ _ c.put_box-a.ensures c.put_label-b.ensures) c.put_label.ensures

pub shape_of-out : goal.shape_of-out
shape_of-out c = same_len _ _ _ (returns c)
