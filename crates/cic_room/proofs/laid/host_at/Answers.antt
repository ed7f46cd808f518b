-- That `host_at` of src/laid.rt keeps its contract.
use mathlib.Core.Path.{ap, ◌∙◌}
use Prim.Native.Nat.{ℕ, ◌/◌, ◌%◌}
use native.Mathlib.Omega.{arith}
use Rattle.words.specs.Array.{byte_of}
use Rattle.cic_record.specs.Kinds.{host_number}
use Rattle.cic_room.proofs.MapLaws.{byte_in}
use Rattle.cic_room.proofs.laid.host_at.Goals as goal

pub returns : goal.returns
returns c =
    let n = c.args.k.0 in (
      λ f d h. ap (λ (y : ℕ). host_number y) (c.byte_of.ensures.0 ∙ ap (λ (w : ℕ). byte_of w (n % 4)) (h.host.holds (n / 4) (omega (arith, c.requires))) ∙ byte_in 256 d.host n h.bytes.1 c.requires),
      c.byte_of.ensures.1,
    )
