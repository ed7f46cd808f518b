-- That `put_next` of src/lib.rt keeps its contract.
use Rattle.text.proofs.WriteLaws.{and_then}
use Rattle.vcd.specs.Dump.{next_tick}
use Rattle.vcd.proofs.put_next.Goals as goal

pub returns : goal.returns
unfolding next_tick
returns c = and_then _ _ _ c.put_tick-a.ensures c.put_changes.ensures
