-- That `move_line` of src/effects.rt keeps its contract.
use native.Mathlib.Omega.{arith}
use Rattle.aintc_room.proofs.SideLaws.{moved_alone, moved-laid}
use Rattle.aintc_room.proofs.effects.move_line.Goals as goal

pub offer-requires : goal.offer-requires
offer-requires c = c.requires

pub returns : goal.returns
returns c =
    λ a ok h. c.offer.ensures _ (moved-laid a _ _ h c.requires _ c.with_bit-w.ensures) (moved_alone a c.args.k c.args.high ok (omega (arith, c.requires, h.shaped.0)))
