-- That `put_waits_head` of src/end.rt keeps its contract.
use Rattle.text.specs.Phrases.{bytes}
use Rattle.sheet.specs.End.{waits_head}
use Rattle.text.proofs.WriteLaws.{same_length as same_len}
use Rattle.sheet.proofs.end.put_waits_head.Goals as goal

pub returns : goal.returns
unfolding waits_head bytes
returns c =
    c.put_all.ensures

pub shape_of-out : goal.shape_of-out
shape_of-out c = same_len _ _ _ (returns c)
