-- That `end` of src/main.rt keeps its contract.
use mathlib.Core.Path.{sym}
use lib.Seq.{length-take-le}
use Rattle.text.proofs.WriteLaws.{laid-fits}
use Rattle.sheet_run.proofs.end.Goals as goal

pub slice_bounds-out-end : goal.slice_bounds-out-end
slice_bounds-out-end c = laid-fits _ _ _ c.put_end-k.ensures

pub slice_bounds-write-end : goal.slice_bounds-write-end
slice_bounds-write-end c = sym (length-take-le _ _ (laid-fits _ _ _ c.put_end-k.ensures))
