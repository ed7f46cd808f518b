-- That `write_vector` of src/effects.rt keeps its contract.
use Rattle.aic_registers.specs.Effects.{vectored}
use Rattle.aic_room.proofs.CellLaws.{put_vector}
use Rattle.aic_room.proofs.effects.write_vector.Goals as goal

pub returns : goal.returns
unfolding vectored
returns c = λ a h. put_vector h _ _ c.requires
