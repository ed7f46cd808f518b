-- That `gained` of src/lib.rt keeps its contract.
use Rattle.deeds.proofs.TextLaws.{gain-is}
use Rattle.deeds.proofs.gained.Goals as goal

pub returns : goal.returns
returns c = gain-is _ _ _ _ _ c.asserted_hosts-before.ensures c.asserted_hosts-after.ensures c.only_in.ensures
