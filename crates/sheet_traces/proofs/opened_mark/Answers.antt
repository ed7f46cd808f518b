-- That `opened_mark` of src/lib.rt keeps its contract.
use Rattle.sheet_traces.proofs.WatchLaws.{no-mark, mark-is}
use Rattle.sheet_traces.proofs.opened_mark.Goals as goal

pub returns-then-room-before : goal.returns-then-room-before
returns-then-room-before c = λ s x ok h laid e. no-mark s x _ _ laid e c.if-room-before.true

pub returns : goal.returns
returns c = λ s x ok h laid e. mark-is s x _ _ ok h laid e c.if-room-before.false
