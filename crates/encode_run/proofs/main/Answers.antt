-- That `main` of src/main.rt keeps its contract.
use mathlib.Core.Path.{sym}
use native.Mathlib.Omega.{arith}
use lib.Seq.{length-take-le}
use Rattle.encode_run.proofs.main.Goals as goal

pub slice_bounds-print-end : goal.slice_bounds-print-end
slice_bounds-print-end c =
    sym (length-take-le _ _ (omega (arith, c.read-came.ensures, c.read-came.auto.room, c.deref_mut.ensures.len, c.deref.ensures.len)))
