-- That `numbers_refusal` of src/controller.rt keeps its contract.
use Rattle.words.proofs.ChoiceLaws.{by-true, by-false}
use Rattle.machine_room.proofs.controller.numbers_refusal.Goals as goal

pub returns-then-is_accepted : goal.returns-then-is_accepted
returns-then-is_accepted c = by-true _ c.is_accepted.ensures c.if-is_accepted.true

pub returns : goal.returns
returns c = by-false _ c.is_accepted.ensures c.if-is_accepted.false
