-- That `put_lines` of src/lib.rt keeps its contract.
use mathlib.Core.Bool.{false}
use native.Mathlib.Omega.{arith}
use Rattle.trace.specs.Trace.{steps_from}
use Rattle.trace.proofs.TraceLaws.{steps_limited}
use Rattle.trace_bounds.proofs.ListLaws.{lines-made}
use Rattle.trace_bounds.proofs.put_lines.Goals as goal

pub returns : goal.returns
returns c =
    lines-made c.args.source c.args.first (steps_from false 20000 c.args.trace.now c.args.start) _ _ _ _ _ _ _
    (omega (arith, steps_limited false 20000 c.args.trace.now c.args.start))
    c.tell_steps-t.ensures.text
    c.tell_steps-t.ensures.figures
    c.tell_steps-t.ensures.ending
    c.put_last-n.ensures
    c.put_end.ensures
