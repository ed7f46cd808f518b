-- That `put_last` of src/lib.rt keeps its contract.
use Rattle.text.proofs.WriteLaws.{and_then}
use Rattle.text.specs.Phrases.{bytes}
use Rattle.trace_bounds.specs.Lines.{last_line}
use Rattle.trace_bounds.proofs.LineLaws.{last_made}
use Rattle.trace_bounds.proofs.put_last.Goals as goal

pub returns : goal.returns
unfolding last_line bytes
returns c =
    last_made _ _ _ _ _ c.unended_now.ensures c.most.ensures
    (and_then _ _ _
    (and_then _ _ _
    (and_then _ _ _ (and_then _ _ _ (and_then _ _ _ c.put_counted-a.ensures c.put_counted-b.ensures) c.put_counted-c.ensures) c.put_counted-d.ensures)
    c.put_most-e.ensures)
    c.put.ensures)
