-- That `put_no_waits` of src/lib.rt keeps its contract.
use mathlib.Core.Path.{◌∙◌}
use Rattle.text.proofs.WriteLaws.{write-laid}
use Rattle.text.specs.Phrases.{bytes}
use Rattle.trace_bounds.specs.Lines.{no_waits}
use Rattle.trace_bounds.proofs.put_no_waits.Goals as goal

pub returns : goal.returns
unfolding no_waits bytes
returns c = c.put_all.ensures ∙ write-laid _ _
