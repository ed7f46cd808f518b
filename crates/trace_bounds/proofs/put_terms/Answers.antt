-- That `put_terms` of src/lib.rt keeps its contract.
use Rattle.text.proofs.WriteLaws.{and_then}
use Rattle.text.specs.Phrases.{bytes}
use Rattle.trace_bounds.specs.Lines.{term_words}
use Rattle.trace_bounds.proofs.put_terms.Goals as goal

pub returns : goal.returns
unfolding term_words bytes
returns c =
    and_then _ _ _
    (and_then _ _ _
    (and_then _ _ _ (and_then _ _ _ (and_then _ _ _ c.put_counted-c.ensures c.put_counted-d.ensures) c.put_counted-e.ensures) c.put_counted-g.ensures)
    c.put_counted-h.ensures)
    c.put_counted.ensures
