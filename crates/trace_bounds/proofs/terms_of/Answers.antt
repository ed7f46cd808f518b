-- That `terms_of` of src/lib.rt keeps its contract.
use Rattle.trace_bounds.proofs.ListLaws.{terms_are}
use Rattle.trace_bounds.proofs.terms_of.Goals as goal

pub returns : goal.returns
returns c = terms_are _ _ c.largest_now-b.ensures
