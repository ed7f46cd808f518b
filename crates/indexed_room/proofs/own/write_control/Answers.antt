-- That `write_control` of src/own.rt keeps its contract.
use Rattle.indexed_room.proofs.ReplyLaws.{control_unwritten, control-written}
use Rattle.indexed_room.proofs.own.write_control.Goals as goal

pub returns-then-n-ne-CARRIED_OUT : goal.returns-then-n-ne-CARRIED_OUT
returns-then-n-ne-CARRIED_OUT c = λ p h. control_unwritten p _ _ c.write_refusal-n.ensures c.if-n-ne-CARRIED_OUT.true h c.refuse.ensures

pub returns : goal.returns
returns c =
    λ p h. control-written p _ _ c.write_refusal-n.ensures c.if-n-ne-CARRIED_OUT.false (c.control.ensures p h) c.answer.ensures
