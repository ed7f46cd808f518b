-- That `put_sources_head` of src/end.rt keeps its contract.
use Rattle.text.specs.Phrases.{bytes}
use Rattle.sheet.specs.End.{sources_head}
use Rattle.text.proofs.WriteLaws.{same_length as same_len}
use Rattle.sheet.proofs.end.put_sources_head.Goals as goal

pub returns : goal.returns
unfolding sources_head bytes
returns c =
    c.put_all.ensures

pub shape_of-out : goal.shape_of-out
shape_of-out c = same_len _ _ _ (returns c)
