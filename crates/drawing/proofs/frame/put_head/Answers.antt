-- That `put_head` of src/frame.rt keeps its contract.
use Rattle.text.proofs.WriteLaws.{and_then, same_length as same_len}
use Rattle.drawing.specs.Frame.{head}
use Rattle.drawing.proofs.frame.put_head.Goals as goal

pub returns : goal.returns
unfolding head
returns c =
    and_then _ _ _ (and_then _ _ _ c.put_title-a.ensures c.put_axes-b.ensures) c.put_signs.ensures

pub shape_of-out : goal.shape_of-out
shape_of-out c = same_len _ _ _ (returns c)
