-- That `write_global` of src/own.rt keeps its contract.
use Rattle.indexed_room.proofs.ReplyLaws.{global_unwritten, global-written}
use Rattle.indexed_room.proofs.own.write_global.Goals as goal

pub returns-then-n-ne-CARRIED_OUT : goal.returns-then-n-ne-CARRIED_OUT
returns-then-n-ne-CARRIED_OUT c = λ p v h. global_unwritten p _ v c.write_refusal-n.ensures c.if-n-ne-CARRIED_OUT.true h c.refuse.ensures

pub returns : goal.returns
returns c =
    λ p v h. global-written p _ v c.write_refusal-n.ensures c.if-n-ne-CARRIED_OUT.false (c.hold_global.ensures p h) c.answer.ensures
