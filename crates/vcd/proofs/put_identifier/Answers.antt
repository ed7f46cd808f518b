-- That `put_identifier` of src/lib.rt keeps its contract.
use Rattle.text.proofs.WriteLaws.{and_then}
use Rattle.vcd.proofs.put_identifier.Goals as goal

pub returns : goal.returns
returns c =
    and_then _ _ _ (and_then _ _ _ c.put-a.ensures c.put-b.ensures) c.put.ensures
