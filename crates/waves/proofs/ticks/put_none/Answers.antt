-- That `put_none` of src/ticks.rt keeps its contract.
use Rattle.text.proofs.WriteLaws.{and_then}
use Rattle.waves.proofs.ticks.put_none.Goals as goal

pub returns : goal.returns
returns c = and_then _ _ _ (and_then _ _ _ c.put_opening-a.ensures c.put_declared-b.ensures) c.put_ending.ensures
