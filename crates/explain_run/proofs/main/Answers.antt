-- That `main` of src/main.rt keeps its contract.
use mathlib.Core.Path.{sym}
use lib.Seq.{length-take-le}
use Rattle.explain_run.proofs.main.Goals as goal

pub slice_bounds-print-end : goal.slice_bounds-print-end
slice_bounds-print-end c = sym (length-take-le _ _ c.read-came.ensures)
