-- That `say` of src/main.rt keeps its contract.
use mathlib.Core.Path.{sym}
use lib.Seq.{length-take-le}
use Rattle.text.proofs.WriteLaws.{laid-fits}
use Rattle.encode_run.proofs.say.Goals as goal

pub slice_bounds-line-end : goal.slice_bounds-line-end
slice_bounds-line-end c = laid-fits _ _ _ c.put_refusal-k.ensures

pub slice_bounds-tell-end : goal.slice_bounds-tell-end
slice_bounds-tell-end c = sym (length-take-le _ _ (laid-fits _ _ _ c.put_refusal-k.ensures))
