-- That `put_hidden` of src/end.rt keeps its contract.
use Rattle.text.specs.Phrases.{bytes}
use Rattle.sheet.specs.End.{hidden_line}
use Rattle.text.proofs.WriteLaws.{and_then, same_length as same_len}
use Rattle.sheet.proofs.end.put_hidden.Goals as goal

pub returns : goal.returns
unfolding hidden_line bytes
returns c =
    rw (← c.hidden-n.ensures)
    (and_then _ _ _ (and_then _ _ _ c.put_all-a.ensures c.put_amount-b.ensures) c.put_all.ensures)

pub shape_of-out : goal.shape_of-out
shape_of-out c = same_len _ _ _ (returns c)
