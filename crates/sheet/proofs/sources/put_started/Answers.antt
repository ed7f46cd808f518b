-- That `put_started` of src/sources.rt keeps its contract.
use Rattle.text.specs.Phrases.{bytes}
use Rattle.sheet.specs.Sources.{started_cells}
use Rattle.text.proofs.WriteLaws.{and_then, same_length as same_len}
use Rattle.sheet.proofs.sources.put_started.Goals as goal

pub returns : goal.returns
unfolding started_cells bytes
returns c =
    rw (← c.word_at-x.ensures, ← c.word_at-y.ensures, ← c.word_at-z.ensures, ← c.word_at-n.ensures, ← c.word_at-u.ensures, ← c.bound_of-most.ensures)
    (and_then _ _ _ (and_then _ _ _ (and_then _ _ _ (and_then _ _ _ (and_then _ _ _ (and_then _ _ _ c.put_source_cell-a.ensures c.put_source_cell-b.ensures) c.put_cell_of-c.ensures) c.put_most-d.ensures) c.put_all-e.ensures) c.put_waited-g.ensures) c.put_source_cell.ensures)

pub shape_of-out : goal.shape_of-out
shape_of-out c = same_len _ _ _ (returns c)
