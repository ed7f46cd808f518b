-- That `read_host` of src/own.rt keeps its contract.
use native.Mathlib.Omega.{arith}
use Rattle.indexed_room.proofs.HoldLaws.{host-held-is, mode-is}
use Rattle.indexed_room.proofs.ReplyLaws.{host-refused, host_there, host-read}
use Rattle.indexed_room.proofs.own.read_host.Goals as goal

pub returns-then-n-ne-CARRIED_OUT : goal.returns-then-n-ne-CARRIED_OUT
returns-then-n-ne-CARRIED_OUT c =
    λ p ok h. host-refused p _ _ (c.host_access-access.ensures p h) c.read_refusal-n.ensures c.if-n-ne-CARRIED_OUT.true h c.refuse.ensures

pub returns-then-h-ge256 : goal.returns-then-h-ge256
returns-then-h-ge256 c =
    λ p ok h. absurd (omega (arith, host_there p _ _ (c.host_access-access.ensures p h) c.read_refusal-n.ensures ok c.if-n-ne-CARRIED_OUT.false, c.if-h-ge256.true))

pub returns : goal.returns
returns c =
    λ p ok h.
    let below = host_there p _ _ (c.host_access-access.ensures p h) c.read_refusal-n.ensures ok c.if-n-ne-CARRIED_OUT.false in
    host-read p _ _ (c.host_access-access.ensures p h) c.read_refusal-n.ensures _ _ _ ok c.if-n-ne-CARRIED_OUT.false (host-held-is p h _ below)
    (c.index_word-word.ensures p ok h) (c.hold_after-x.ensures p (mode-is p h)) (c.hold_host.ensures p h) c.answer.ensures
