-- That `put_figure` of src/lib.rt keeps its contract.
use Rattle.text.proofs.WriteLaws.{and_then}
use Rattle.stack.specs.Printed.{figure_line}
use Rattle.stack.proofs.put_figure.Goals as goal

pub returns : goal.returns
unfolding figure_line
returns c =
    and_then _ _ _ c.put_decimal-at.ensures c.put_all.ensures
