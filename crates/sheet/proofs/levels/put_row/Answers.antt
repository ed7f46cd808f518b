-- That `put_row` of src/levels.rt keeps its contract.
use Rattle.text.specs.Phrases.{bytes}
use Rattle.sheet.specs.Levels.{level_row}
use Rattle.text.proofs.WriteLaws.{and_then, same_length as same_len}
use Rattle.sheet.proofs.levels.put_row.Goals as goal

pub returns : goal.returns
unfolding level_row bytes
returns c =
    rw (← c.level_bytes-n.ensures)
    (and_then _ _ _ (and_then _ _ _ (and_then _ _ _ (and_then _ _ _ (and_then _ _ _ (and_then _ _ _ (and_then _ _ _ c.put_counted-a.ensures c.put_counted-b.ensures) c.put_all-c.ensures) c.put_amount-d.ensures) c.put_counted-e.ensures) c.put_all-f.ensures) c.put_whose-g.ensures) c.put_all.ensures)

pub shape_of-out : goal.shape_of-out
shape_of-out c = same_len _ _ _ (returns c)
