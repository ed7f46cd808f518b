-- That `put_terms` of src/sources.rt keeps its contract.
use Rattle.text.specs.Phrases.{bytes}
use Rattle.sheet.specs.Sources.{terms}
use Rattle.text.proofs.WriteLaws.{and_then, same_length as same_len}
use Rattle.sheet.proofs.sources.put_terms.Goals as goal

pub returns : goal.returns
unfolding terms bytes
returns c =
    rw (← c.word_at-p.ensures, ← c.word_at-e.ensures, ← c.word_at-c.ensures, ← c.word_at-t.ensures, ← c.word_at-d.ensures, ← c.word_at-r.ensures)
    (and_then _ _ _ (and_then _ _ _ (and_then _ _ _ (and_then _ _ _ (and_then _ _ _ c.put_term-f.ensures c.put_term-g.ensures) c.put_term-h.ensures) c.put_term-j.ensures) c.put_term-k.ensures) c.put_term.ensures)

pub shape_of-out : goal.shape_of-out
shape_of-out c = same_len _ _ _ (returns c)
