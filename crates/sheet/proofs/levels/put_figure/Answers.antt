-- That `put_figure` of src/levels.rt keeps its contract.
use Rattle.text.specs.Phrases.{bytes}
use Rattle.sheet.specs.Levels.{figure}
use Rattle.text.proofs.WriteLaws.{and_then, same_length as same_len}
use Rattle.sheet.proofs.levels.put_figure.Goals as goal

pub returns : goal.returns
unfolding figure bytes
returns c =
    rw (← c.all_levels-n.ensures)
    (and_then _ _ _ (and_then _ _ _ c.put_all-a.ensures c.put_amount-b.ensures) c.put_all.ensures)

pub shape_of-out : goal.shape_of-out
shape_of-out c = same_len _ _ _ (returns c)
