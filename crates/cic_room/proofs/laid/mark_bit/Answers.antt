-- That `mark_bit` of src/laid.rt keeps its contract.
use mathlib.Core.Path.{ap, ◌∙◌}
use Prim.Native.Nat.{ℕ, ◌/◌, ◌%◌}
use lib.ListN.{set}
use Rattle.words.specs.Array.{with_bit_at}
use Rattle.words.specs.Word.{with_bit}
use Rattle.cic_room.specs.Bits.{bits_of, with_bits}
use Rattle.cic_room.proofs.RoomLaws.{laid_as}
use Rattle.cic_room.proofs.laid.mark_bit.Goals as goal

pub returns : goal.returns
unfolding with_bit_at
returns c =
    let a = c.args in
    let n = a.s.0 in
    λ f d h.
    laid_as (ap (λ (x : ℕ). with_bits a.b d (set (bits_of a.b d) (n / 32) x)) (c.with_bit-w.ensures ∙ ap (λ (x : ℕ). with_bit x (n % 32) a.on) (c.word.ensures f d h)))
    (c.store.ensures f d h)
