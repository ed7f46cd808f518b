-- That `print` of src/main.rt keeps its contract.
use mathlib.Core.Path.{sym}
use lib.Seq.{length-take-le}
use Rattle.text.proofs.WriteLaws.{laid-fits}
use Rattle.table_run.proofs.print.Goals as goal

pub slice_bounds-out-end : goal.slice_bounds-out-end
slice_bounds-out-end c = laid-fits _ _ _ c.print-d.ensures.0

pub slice_bounds-write_all-end : goal.slice_bounds-write_all-end
slice_bounds-write_all-end c = sym (length-take-le _ _ (laid-fits _ _ _ c.print-d.ensures.0))

pub slice_bounds-out-end-else-d : goal.slice_bounds-out-end-else-d
slice_bounds-out-end-else-d c = laid-fits _ _ _ c.print-d.ensures.0

pub slice_bounds-tell-end-else-d : goal.slice_bounds-tell-end-else-d
slice_bounds-tell-end-else-d c = sym (length-take-le _ _ (laid-fits _ _ _ c.print-d.ensures.0))
