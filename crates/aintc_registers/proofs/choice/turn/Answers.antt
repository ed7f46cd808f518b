-- That `turn` of src/choice.rt keeps its contract.
use mathlib.Core.Bool.{true}
use Rattle.aintc_registers.proofs.SearchLaws.{turn-taken, turn-left}
use Rattle.aintc_registers.proofs.choice.turn.Goals as goal

pub returns-then-is_routed-priority : goal.returns-then-is_routed-priority
returns-then-is_routed-priority c = turn-taken _ true _ _ _ _ _ c.priority_of-priority.ensures c.is_routed.ensures c.if-is_routed-priority.true

pub returns : goal.returns
returns c = turn-left _ true _ _ _ _ _ c.priority_of-priority.ensures c.is_routed.ensures c.if-is_routed-priority.false
