-- That `clear_bits` of src/writes.rt keeps its contract.
use Prim.Native.Nat.{◌*◌}
use native.Mathlib.Omega.{arith}
use Rattle.steps.specs.Refusals.{absent, write_access}
use Rattle.cic_registers.specs.Bits.{bits_cleared}
use Rattle.cic_registers.specs.Map.{if_any}
use Rattle.cic_room.specs.Bits.{bits_of, with_bits}
use Rattle.cic_room.proofs.BitsLaws.{clearing_is}
use Rattle.cic_room.proofs.PutLaws.{systems-is}
use Rattle.cic_room.proofs.ReplyLaws.{done_as, carried, stopped, there, not_there}
use Rattle.cic_room.proofs.writes.clear_bits.Goals as goal

pub returns-then-room-k : goal.returns-then-room-k
returns-then-room-k c =
    let a = c.args in
    λ f d ok h.
    done_as (clearing_is a.bits d a.k a.v)
    (stopped d (with_bits a.bits d (bits_cleared (bits_of a.bits d) a.k a.v)) (write_access (if_any (32 * a.k) d.systems) 0) absent (not_there (32 * a.k) d.systems 0 (omega (arith, c.if-room-k.true, systems-is h))) (λ q. absurd (omega (arith, q))) c.refuse.ensures h)

pub returns : goal.returns
returns c =
    let a = c.args in
    λ f d ok h.
    done_as (clearing_is a.bits d a.k a.v)
    (carried d (with_bits a.bits d (bits_cleared (bits_of a.bits d) a.k a.v)) (write_access (if_any (32 * a.k) d.systems) 0) (there (32 * a.k) d.systems 0 (omega (arith, c.if-room-k.false, systems-is h))) c.answer.ensures (c.clear_bits.ensures f d h))
