-- That `put_gains` of src/lib.rt keeps its contract.
use Rattle.deeds.proofs.TextLaws.{gains_text}
use Rattle.deeds.proofs.put_gains.Goals as goal

pub returns : goal.returns
returns c =
    gains_text _ _ _ _ _ _ _ _ c.put_hosts.ensures c.gained-ws.ensures c.count_of-count.ensures c.lowest_of-lowest.ensures
