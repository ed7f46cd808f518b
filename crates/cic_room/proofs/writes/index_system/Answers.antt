-- That `index_system` of src/writes.rt keeps its contract.
use mathlib.Core.Path.{sym, ap, ◌∙◌}
use mathlib.Core.Bool.{◌||◌}
use Prim.Native.Nat.{ℕ}
use native.Mathlib.Omega.{arith}
use borrow.Author.Tests.{lt-ltb, le-ltb}
use lib.Dec.{ltb, leb}
use lib.ListN.{get_or}
use Rattle.words.specs.Array.{with_bit_at}
use Rattle.steps.specs.Refusals.{beyond}
use Rattle.cic_room.specs.Bits.{bits_of, with_bits}
use Rattle.cic_record.proofs.RuleLaws.{sound-is}
use Rattle.cic_registers.specs.Registers.{unless}
use Rattle.cic_room.proofs.PutLaws.{systems-is}
use Rattle.cic_room.proofs.ReplyLaws.{carried, stopped, within_limit, past_limit, past_first, before-both}
use Rattle.cic_room.proofs.writes.index_system.Goals as goal

pub returns-then-room-v : goal.returns-then-room-v
returns-then-room-v c =
    let a = c.args in
    λ f d ok h.
    let e = sym (ap (λ (x : ℕ). leb x a.v || leb 1024 a.v) (systems-is h)) ∙ c.if-room-v.true in
    stopped d (with_bits a.bits d (with_bit_at (bits_of a.bits d) a.v a.on)) (unless (ltb a.v d.systems)) beyond (past_limit (le-ltb a.v d.systems (past_first d.systems 1024 a.v (sound-is d ok).counts.0.1 e))) (λ q. absurd (omega (arith, q))) c.refuse.ensures h

pub overflow_cast-v : goal.overflow_cast-v
overflow_cast-v c =
    let a = c.args in
    let b = before-both (get_or a.room.now 1 0) 1024 a.v c.if-room-v.false in
    omega (arith, b.1)

pub mark_bit-requires : goal.mark_bit-requires
mark_bit-requires c =
    let a = c.args in
    let b = before-both (get_or a.room.now 1 0) 1024 a.v c.if-room-v.false in
    b.1

pub returns : goal.returns
returns c =
    let a = c.args in
    λ f d ok h.
    let e = sym (ap (λ (x : ℕ). leb x a.v || leb 1024 a.v) (systems-is h)) ∙ c.if-room-v.false in
    carried d (with_bits a.bits d (with_bit_at (bits_of a.bits d) a.v a.on)) (unless (ltb a.v d.systems)) (within_limit (lt-ltb a.v d.systems (before-both d.systems 1024 a.v e).0)) c.answer.ensures (c.mark_bit.ensures f d h)
