-- That `clear_bits` of src/laid.rt keeps its contract.
use mathlib.Core.Path.{ap, ◌∙◌}
use Prim.Native.Nat.{ℕ}
use lib.ListN.{set}
use Rattle.words.specs.Word.{without}
use Rattle.cic_registers.specs.Bits.{bits_cleared}
use Rattle.cic_room.specs.Bits.{bits_of, with_bits}
use Rattle.cic_room.proofs.RoomLaws.{laid_as}
use Rattle.cic_room.proofs.laid.clear_bits.Goals as goal

pub returns : goal.returns
unfolding bits_cleared
returns c =
    let a = c.args in
    λ f d h.
    laid_as (ap (λ (w : ℕ). with_bits a.b d (set (bits_of a.b d) a.k w)) (c.drop_bits-w.ensures ∙ ap (λ (w : ℕ). without w a.v) (c.word.ensures f d h)))
    (c.store.ensures f d h)
