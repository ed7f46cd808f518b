-- That `counts_of` of src/lib.rt keeps its contract.
use Rattle.trace_bounds.proofs.ListLaws.{counts_are}
use Rattle.trace_bounds.proofs.counts_of.Goals as goal

pub returns : goal.returns
returns c = counts_are _ _ c.unended_now-unended.ensures
