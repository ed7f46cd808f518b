-- That `put_trace` of src/lib.rt keeps its contract.
use mathlib.Core.Path.{◌∙◌}
use Rattle.text.proofs.WriteLaws.{and_then, write-laid}
use Rattle.text.specs.Phrases.{bytes}
use Rattle.report.specs.Printed.{trace_line}
use Rattle.report.proofs.put_trace.Goals as goal

pub returns : goal.returns
unfolding trace_line bytes
returns c =
    and_then _ _ _
    (and_then _ _ _ (and_then _ _ _ c.put_counted-a.ensures c.put_counted-b.ensures) c.put_ended-c.ensures)
    c.put_name.ensures
    ∙ write-laid _ _
