-- That `put` of src/lib.rt keeps its contract.
use Rattle.text.proofs.WriteLaws.{room, full}
use Rattle.text.proofs.put.Goals as goal

pub returns-then-at-out : goal.returns-then-at-out
returns-then-at-out c = room _ _ _ c.if-at-out.true

pub returns-else-at-out : goal.returns-else-at-out
returns-else-at-out c = full _ _ _ c.if-at-out.false
