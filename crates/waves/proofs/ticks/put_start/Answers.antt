-- That `put_start` of src/ticks.rt keeps its contract.
use Rattle.waves.proofs.TickLaws.{started}
use Rattle.waves.proofs.ticks.put_start.Goals as goal

pub returns : goal.returns
returns c =
    let v = c.values-values.ensures in (started _ _ _ _ _ v c.put_heading-a.ensures c.put_first-to.ensures, v)
