-- That `put_stated` of src/lib.rt keeps its contract.
use Rattle.explain.specs.Stated.{stated}
use Rattle.explain.proofs.put_stated.Goals as goal

pub returns : goal.returns
unfolding stated
returns c = c.put_stated_by.ensures
