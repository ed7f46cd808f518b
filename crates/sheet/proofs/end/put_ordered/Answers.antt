-- That `put_ordered` of src/end.rt keeps its contract.
use Rattle.sheet.specs.End.{sources_of}
use Rattle.text.proofs.WriteLaws.{and_then, same_length as same_len}
use Rattle.sheet.proofs.end.put_ordered.Goals as goal

pub returns : goal.returns
unfolding sources_of
returns c =
    and_then _ _ _ (and_then _ _ _ (and_then _ _ _ (and_then _ _ _ c.put_sources_head-a.ensures c.put_sources-b.ensures) c.put_waits_head-c.ensures) c.put_waits-d.ensures) c.put_hidden.ensures

pub shape_of-out : goal.shape_of-out
shape_of-out c = same_len _ _ _ (returns c)
