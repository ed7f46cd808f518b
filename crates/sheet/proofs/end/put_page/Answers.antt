-- That `put_page` of src/end.rt keeps its contract.
use Rattle.sheet.specs.End.{page_end}
use Rattle.text.proofs.WriteLaws.{and_then, same_length as same_len}
use Rattle.sheet.proofs.end.put_page.Goals as goal

pub returns : goal.returns
unfolding page_end
returns c =
    and_then _ _ _ (and_then _ _ _ (and_then _ _ _ c.put_head-a.ensures c.put_stack-b.ensures) c.put_sources-c.ensures) c.put_meaning.ensures

pub shape_of-out : goal.shape_of-out
shape_of-out c = same_len _ _ _ (returns c)
