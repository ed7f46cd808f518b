-- That `put_wait` of src/sources.rt keeps its contract.
use Rattle.text.specs.Phrases.{bytes}
use Rattle.sheet.specs.Sources.{waits_row}
use Rattle.text.proofs.WriteLaws.{and_then, same_length as same_len}
use Rattle.sheet.proofs.sources.put_wait.Goals as goal

pub returns : goal.returns
unfolding waits_row bytes
returns c =
    rw (← c.word_at-e.ensures, ← c.word_at-u.ensures, ← c.word_at-n.ensures, ← c.word_at-f.ensures, ← c.word_at-m.ensures, ← c.bounded.ensures)
    (and_then _ _ _ (and_then _ _ _ (and_then _ _ _ (and_then _ _ _ (and_then _ _ _ (and_then _ _ _ (and_then _ _ _ (and_then _ _ _ c.put_counted-a.ensures c.put_all-b.ensures) c.put_source_cell-c.ensures) c.put_source_cell-d.ensures) c.put_cell_of-g.ensures) c.put_first-h.ensures) c.put_all-j.ensures) c.put_terms-k.ensures) c.put_all.ensures)

pub shape_of-out : goal.shape_of-out
shape_of-out c = same_len _ _ _ (returns c)
