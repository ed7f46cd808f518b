-- That `put_mode` of src/layout.rt keeps its contract.
use Rattle.aic_room.proofs.ModeLaws.{put_modes}
use mathlib.Core.Path.{refl}
use Rattle.aic_room.proofs.layout.put_mode.Goals as goal

pub returns : goal.returns
returns c =
    λ a h. put_modes a _ _ _ _ _ _ _ _ _ _ c.requires h c.has.ensures c.has-2.ensures c.with_bit-edges.ensures c.with_bit-high.ensures c.drop_bits.ensures refl c.put_class.ensures
