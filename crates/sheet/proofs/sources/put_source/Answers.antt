-- That `put_source` of src/sources.rt keeps its contract.
use Rattle.text.specs.Phrases.{bytes}
use Rattle.sheet.specs.Sources.{source_row}
use Rattle.text.proofs.WriteLaws.{and_then, same_length as same_len}
use Rattle.sheet.proofs.sources.put_source.Goals as goal

pub returns : goal.returns
unfolding source_row bytes
returns c =
    rw (← c.word_at-p.ensures, ← c.word_at-q.ensures, ← c.word_at-f.ensures)
    (and_then _ _ _ (and_then _ _ _ (and_then _ _ _ (and_then _ _ _ c.put_source_head-a.ensures c.put_tabled-b.ensures) c.put_ahead-c.ensures) c.put_started-d.ensures) c.put_all.ensures)

pub shape_of-out : goal.shape_of-out
shape_of-out c = same_len _ _ _ (returns c)
