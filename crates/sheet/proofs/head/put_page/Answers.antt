-- That `put_page` of src/head.rt keeps its contract.
use Rattle.text.specs.Phrases.{bytes}
use Rattle.sheet.specs.Head.{style_tables, style_paper, traces_head, page_head}
use Rattle.text.proofs.WriteLaws.{and_then, same_length as same_len}
use Rattle.sheet.proofs.head.put_page.Goals as goal

pub returns : goal.returns
unfolding page_head style_tables style_paper traces_head bytes
returns c =
    and_then _ _ _ (and_then _ _ _ (and_then _ _ _ c.put_start-a.ensures c.put_all-b.ensures) c.put_all-c.ensures) c.put_all.ensures

pub shape_of-out : goal.shape_of-out
shape_of-out c = same_len _ _ _ (returns c)
