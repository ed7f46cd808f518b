-- That `put_tick` of src/lib.rt keeps its contract.
use Rattle.text.proofs.WriteLaws.{and_then}
use Rattle.vcd.specs.Dump.{tick}
use Rattle.vcd.proofs.put_tick.Goals as goal

pub returns : goal.returns
unfolding tick
returns c =
    and_then _ _ _ (and_then _ _ _ c.put-a.ensures c.put_decimal-b.ensures) c.put.ensures
