-- That `bound_of` of src/sources.rt keeps its contract.
use Rattle.sheet.specs.Sources.{bound_of}
use Rattle.sheet.proofs.sources.bound_of.Goals as goal

pub returns : goal.returns
unfolding bound_of
returns c = rw (c.word_at-p.ensures, c.word_at-e.ensures, c.word_at-c.ensures, c.word_at-t.ensures, c.word_at-d.ensures, c.word_at-r.ensures)
