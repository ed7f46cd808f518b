-- That `main` of src/main.rt keeps its contract.
use mathlib.Core.Path.{sym}
use lib.Seq.{length-take-le}
use Rattle.sheet_run.proofs.main.Goals as goal

pub slice_bounds-check-end : goal.slice_bounds-check-end
slice_bounds-check-end c = sym (length-take-le _ _ c.read_file-came.ensures)
