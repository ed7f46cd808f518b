-- That `index_host` of src/writes.rt keeps its contract.
use mathlib.Core.Path.{sym, ap, ◌∙◌}
use mathlib.Core.Bool.{◌||◌}
use Prim.Native.Nat.{ℕ}
use native.Mathlib.Omega.{arith}
use borrow.Author.Tests.{lt-ltb, le-ltb}
use lib.Dec.{ltb, leb}
use lib.ListN.{get_or}
use Rattle.words.specs.Array.{with_bit_at}
use Rattle.steps.specs.Refusals.{beyond}
use Rattle.cic_record.specs.Record.{with_allow}
use Rattle.cic_record.proofs.RuleLaws.{sound-is}
use Rattle.cic_registers.specs.Registers.{unless}
use Rattle.cic_room.proofs.PutLaws.{hosts-is}
use Rattle.cic_room.proofs.ReplyLaws.{carried, stopped, within_limit, past_limit, past_first, before-both}
use Rattle.cic_room.proofs.writes.index_host.Goals as goal

pub returns-then-room-v : goal.returns-then-room-v
returns-then-room-v c =
    let a = c.args in
    λ f d ok h.
    let e = sym (ap (λ (x : ℕ). leb x a.v || leb 256 a.v) (hosts-is h)) ∙ c.if-room-v.true in
    stopped d (with_allow d (with_bit_at d.allow a.v a.on)) (unless (ltb a.v d.hosts)) beyond (past_limit (le-ltb a.v d.hosts (past_first d.hosts 256 a.v (sound-is d ok).counts.1.1.1 e))) (λ q. absurd (omega (arith, q))) c.refuse.ensures h

pub overflow_cast-v : goal.overflow_cast-v
overflow_cast-v c =
    let a = c.args in
    let b = before-both (get_or a.room.now 3 0) 256 a.v c.if-room-v.false in
    omega (arith, b.1)

pub mark_host-requires : goal.mark_host-requires
mark_host-requires c =
    let a = c.args in
    let b = before-both (get_or a.room.now 3 0) 256 a.v c.if-room-v.false in
    b.1

pub returns : goal.returns
returns c =
    let a = c.args in
    λ f d ok h.
    let e = sym (ap (λ (x : ℕ). leb x a.v || leb 256 a.v) (hosts-is h)) ∙ c.if-room-v.false in
    carried d (with_allow d (with_bit_at d.allow a.v a.on)) (unless (ltb a.v d.hosts)) (within_limit (lt-ltb a.v d.hosts (before-both d.hosts 256 a.v e).0)) c.answer.ensures (c.mark_host.ensures f d h)
