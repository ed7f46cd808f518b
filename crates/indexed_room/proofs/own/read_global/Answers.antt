-- That `read_global` of src/own.rt keeps its contract.
use Rattle.indexed_room.proofs.HoldLaws.{global-is, mode-is}
use Rattle.indexed_room.proofs.ReplyLaws.{global-refused, global-read}
use Rattle.indexed_room.proofs.own.read_global.Goals as goal

pub returns-then-n-ne-CARRIED_OUT : goal.returns-then-n-ne-CARRIED_OUT
returns-then-n-ne-CARRIED_OUT c = λ p ok h. global-refused p _ c.read_refusal-n.ensures c.if-n-ne-CARRIED_OUT.true h c.refuse.ensures

pub returns : goal.returns
returns c =
    λ p ok h.
    global-read p _ c.read_refusal-n.ensures _ _ _ ok c.if-n-ne-CARRIED_OUT.false (global-is p h) (c.index_word-word.ensures p ok h) (c.hold_after-x.ensures p (mode-is p h))
    (c.hold_global.ensures p h) c.answer.ensures
