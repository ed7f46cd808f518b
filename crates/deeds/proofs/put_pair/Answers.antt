-- That `put_pair` of src/lib.rt keeps its contract.
use Rattle.text.proofs.WriteLaws.{and_then}
use Rattle.deeds.proofs.put_pair.Goals as goal

pub returns : goal.returns
returns c =
    and_then _ _ _ c.put_counted-a.ensures c.put_counted.ensures
