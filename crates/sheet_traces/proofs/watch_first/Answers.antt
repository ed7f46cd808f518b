-- That `watch_first` of src/lib.rt keeps its contract.
use Rattle.sheet_traces.proofs.watch_first.Goals as goal

pub returns : goal.returns
returns c = rw c.unkept.ensures
