-- That `store` of src/laid.rt keeps its contract.
use mathlib.Core.Path.{sym, subst}
use Prim.Native.Nat.{ℕ, ◌+◌}
use lib.ListN.{set}
use Rattle.cic_room.specs.Bits.{bits_of, with_bits}
use Rattle.cic_room.specs.Tables.{Stale}
use Rattle.cic_room.proofs.BitsLaws.{stale_bits}
use Rattle.cic_room.proofs.RoomLaws.{laid_of}
use Rattle.cic_room.proofs.laid.store.Goals as goal

pub returns : goal.returns
returns c =
    let a = c.args in
    λ f d h.
    laid_of
    (c.renew_word.ensures f _
    (subst (λ (p : ℕ). Stale f (with_bits a.b d (set (bits_of a.b d) a.k a.w)) a.k (set a.room.now (p + a.k) a.w)) (sym c.place.ensures.0) (stale_bits a.b h a.k a.w c.requires)))
