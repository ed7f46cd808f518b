-- That `print_row` of src/traces.rt keeps its contract.
use mathlib.Core.Path.{sym}
use lib.Seq.{length-take-le}
use Rattle.text.proofs.WriteLaws.{laid-fits}
use Rattle.sheet_run.proofs.traces.print_row.Goals as goal

pub slice_bounds-out-end : goal.slice_bounds-out-end
slice_bounds-out-end g c = laid-fits _ _ _ c.put_row-k.ensures

pub slice_bounds-write-end : goal.slice_bounds-write-end
slice_bounds-write-end g c = sym (length-take-le _ _ (laid-fits _ _ _ c.put_row-k.ensures))
