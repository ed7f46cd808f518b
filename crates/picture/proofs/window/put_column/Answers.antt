-- That `put_column` of src/window.rt keeps its contract.
use Rattle.text.proofs.WriteLaws.{room, full}
use Rattle.picture.proofs.window.put_column.Goals as goal

pub returns-then-at-columns : goal.returns-then-at-columns
returns-then-at-columns c = room _ _ _ c.if-at-columns.true

pub returns-else-at-columns : goal.returns-else-at-columns
returns-else-at-columns c = full _ _ _ c.if-at-columns.false
