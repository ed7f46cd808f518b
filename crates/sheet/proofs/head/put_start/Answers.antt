-- That `put_start` of src/head.rt keeps its contract.
use Rattle.text.specs.Phrases.{bytes}
use Rattle.sheet.specs.Head.{document_head, style_parts}
use Rattle.text.proofs.WriteLaws.{and_then, same_length as same_len}
use Rattle.sheet.proofs.head.put_start.Goals as goal

pub returns : goal.returns
unfolding document_head style_parts bytes
returns c =
    and_then _ _ _ c.put_all-a.ensures c.put_all.ensures

pub shape_of-out : goal.shape_of-out
shape_of-out c = same_len _ _ _ (returns c)
