-- That `put_step` of src/ticks.rt keeps its contract.
use Rattle.waves.proofs.TickLaws.{lettered, stepped}
use Rattle.waves.proofs.ticks.put_step.Goals as goal

pub returns : goal.returns
returns c =
    let l = c.letter_of-letter.ensures in (
      stepped _ _ _ _ _ _ l c.values-values.ensures _ _ _ _ c.put_next-to.ensures,
      lettered _ _ _ _ _ _ l c.values-values.ensures,
    )
