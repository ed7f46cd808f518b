-- That `write_host` of src/own.rt keeps its contract.
use native.Mathlib.Omega.{arith}
use Rattle.indexed_room.proofs.ReplyLaws.{host_unwritten, write_there, host-written}
use Rattle.indexed_room.proofs.own.write_host.Goals as goal

pub returns-then-n-ne-CARRIED_OUT : goal.returns-then-n-ne-CARRIED_OUT
returns-then-n-ne-CARRIED_OUT c =
    λ p v ok h. host_unwritten p _ _ v (c.host_access-access.ensures p h) c.write_refusal-n.ensures c.if-n-ne-CARRIED_OUT.true h c.refuse.ensures

pub returns-then-h-ge256 : goal.returns-then-h-ge256
returns-then-h-ge256 c =
    λ p v ok h.
    absurd (omega (arith, write_there p _ _ v (c.host_access-access.ensures p h) c.write_refusal-n.ensures ok c.if-n-ne-CARRIED_OUT.false, c.if-h-ge256.true))

pub returns : goal.returns
returns c =
    λ p v ok h.
    host-written p _ _ v (c.host_access-access.ensures p h) c.write_refusal-n.ensures c.if-n-ne-CARRIED_OUT.false (c.hold_host.ensures p h) c.answer.ensures
