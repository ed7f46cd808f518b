-- That `print` of src/main.rt keeps its contract.
use mathlib.Core.Path.{sym}
use native.Mathlib.Omega.{arith}
use lib.Seq.{length-take-le}
use Rattle.text.proofs.WriteLaws.{laid-fits}
use Rattle.explain_run.proofs.print.Goals as goal

pub slice_bounds-write_all-end : goal.slice_bounds-write_all-end
slice_bounds-write_all-end c =
    sym (length-take-le _ _ (omega (arith, laid-fits _ _ _ c.explained-k.ensures, c.explained-k.auto.out, c.deref_mut.ensures.len, c.deref.ensures.len)))
