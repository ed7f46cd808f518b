-- That `steps_in` of src/controller.rt keeps its contract.
use Rattle.machine_room.proofs.BatchLaws.{all-taken, all-refused}
use Rattle.machine_room.proofs.controller.steps_in.Goals as goal

pub returns-then-is_controller : goal.returns-then-is_controller
returns-then-is_controller c =
    all-taken _ _ _ _ _ _ _ c.number_of-n.ensures c.take_all.ensures (c.is_controller.ensures.0 c.if-is_controller.true)

pub returns : goal.returns
returns c =
    all-refused _ _ _ _ _ _ c.number_of-n.ensures c.refuse_all.ensures (c.is_controller.ensures.1 c.if-is_controller.false)
