-- That `put_wait` of src/lib.rt keeps its contract.
use Rattle.text.proofs.WriteLaws.{and_then}
use Rattle.text.specs.Phrases.{bytes}
use Rattle.trace_bounds.proofs.LineLaws.{wait-made}
use Rattle.trace_bounds.proofs.put_wait.Goals as goal

pub returns : goal.returns
unfolding bytes
returns c =
    wait-made _ _ _ _ _ c.saturating_sub.ensures
    (and_then _ _ _
    (and_then _ _ _ (and_then _ _ _ (and_then _ _ _ c.put_counted-c.ensures c.put_ended-d.ensures) c.put_counted-e.ensures) c.put_bound-g.ensures)
    c.put.ensures)
