-- That `put_column` of src/lib.rt keeps its contract.
use Rattle.explain.proofs.StatedLaws.{columned}
use Rattle.explain.proofs.put_column.Goals as goal

pub returns : goal.returns
returns c = columned _ _ _ _ _ c.put_all-a.ensures c.gap.ensures c.put_spaces.ensures
