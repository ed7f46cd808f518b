-- That `access` of src/sides.rt keeps its contract.
use Rattle.coreinterrupt.proofs.SidesTableLaws.{access-past}
use Rattle.coreinterrupt.specs.Side.{side_access}
use Rattle.coreinterrupt.proofs.sides.access.Goals as goal

pub returns-in-Some-Soft : goal.returns-in-Some-Soft
unfolding side_access
returns-in-Some-Soft c = let i = rw c.in-Some-Soft.field-0-is at c.in-Some-Soft.ensures in rw i

pub returns-in-Some-SoftClear : goal.returns-in-Some-SoftClear
unfolding side_access
returns-in-Some-SoftClear c = let i = rw c.in-Some-SoftClear.field-0-is at c.in-Some-SoftClear.ensures in rw (c.clear_access.ensures, i)

pub returns-in-Some-Enable : goal.returns-in-Some-Enable
unfolding side_access
returns-in-Some-Enable c = let i = rw c.in-Some-Enable.field-0-is at c.in-Some-Enable.ensures in rw i

pub returns-in-Some-EnableClear : goal.returns-in-Some-EnableClear
unfolding side_access
returns-in-Some-EnableClear c = let i = rw c.in-Some-EnableClear.field-0-is at c.in-Some-EnableClear.ensures in rw (c.clear_access-in-Some-EnableClear.ensures, i)

pub returns-in-Some-Raw : goal.returns-in-Some-Raw
unfolding side_access
returns-in-Some-Raw c = let i = rw c.in-Some-Raw.field-0-is at c.in-Some-Raw.ensures in rw i

pub returns-in-Some-Status : goal.returns-in-Some-Status
unfolding side_access
returns-in-Some-Status c = let i = rw c.in-Some-Status.field-0-is at c.in-Some-Status.ensures in rw i

pub returns-in-None : goal.returns-in-None
returns-in-None c = access-past _ _ c.in-None.ensures
