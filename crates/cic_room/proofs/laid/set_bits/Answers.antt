-- That `set_bits` of src/laid.rt keeps its contract.
use mathlib.Core.Path.{ap, ap₂, ◌∙◌}
use Prim.Native.Nat.{ℕ}
use lib.ListN.{set}
use Rattle.words.specs.Array.{rest_at}
use Rattle.words.specs.Word.{either, kept}
use Rattle.cic_registers.specs.Bits.{bits_set}
use Rattle.cic_room.specs.Bits.{bits_of, with_bits}
use Rattle.cic_room.proofs.PutLaws.{systems-is}
use Rattle.cic_room.proofs.RoomLaws.{laid_as}
use Rattle.cic_room.proofs.laid.set_bits.Goals as goal

pub returns : goal.returns
unfolding bits_set
returns c =
    let a = c.args in
    λ f d h.
    laid_as (ap (λ (w : ℕ). with_bits a.b d (set (bits_of a.b d) a.k w))
    (c.join-w.ensures ∙ ap₂ (λ (w n : ℕ). either w n) (c.word.ensures f d h) (c.keep-new.ensures ∙ ap (λ (n : ℕ). kept n a.v) (c.rest_at.ensures ∙ ap (λ (n : ℕ). rest_at n a.k) (systems-is h)))))
    (c.store.ensures f d h)
