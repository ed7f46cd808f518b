-- That `take` of src/controller.rt keeps its contract.
use mathlib.Core.Bool.{true}
use Rattle.machine_room.proofs.BatchLaws.{takes, takes_none, step_kinds}
use Rattle.machine_room.proofs.controller.take.Goals as goal

pub step-requires : goal.step-requires
step-requires c = step_kinds _ c.if-kind.true

pub returns-then-kind : goal.returns-then-kind
returns-then-kind c m s = takes m _ _ _ _ c.if-kind.true s (c.step.ensures true m s.0 s.1)

pub returns : goal.returns
returns c m s = takes_none m _ _ _ _ c.if-kind.false s c.refuse.ensures
