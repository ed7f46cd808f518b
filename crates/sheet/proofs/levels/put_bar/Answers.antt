-- That `put_bar` of src/levels.rt keeps its contract.
use Rattle.text.specs.Phrases.{bytes}
use Rattle.sheet.specs.Levels.{bar}
use Rattle.text.proofs.WriteLaws.{and_then, same_length as same_len}
use Rattle.sheet.proofs.levels.put_bar.Goals as goal

pub returns : goal.returns
unfolding bar bytes
returns c =
    rw (← c.width-w.ensures.0)
    (and_then _ _ _ (and_then _ _ _ (and_then _ _ _ (and_then _ _ _ (and_then _ _ _ (and_then _ _ _ (and_then _ _ _ (and_then _ _ _ c.put_counted-a.ensures c.put_counted-c.ensures) c.put_counted-d.ensures) c.put_number-e.ensures) c.put_number-f.ensures) c.put_counted-g.ensures) c.put_all-h.ensures) c.put_amount-i.ensures) c.put_all.ensures)

pub shape_of-out : goal.shape_of-out
shape_of-out c = same_len _ _ _ (returns c)
