-- That `put_left_out` of src/lib.rt keeps its contract.
use mathlib.Core.Path.{◌∙◌}
use Rattle.text.proofs.WriteLaws.{and_then, write-laid}
use Rattle.text.specs.Phrases.{bytes}
use Rattle.report.specs.Printed.{left_out_line}
use Rattle.report.proofs.put_left_out.Goals as goal

pub returns : goal.returns
unfolding left_out_line bytes
returns c =
    and_then _ _ _ c.put_counted-a.ensures c.put_name.ensures ∙ write-laid _ _
