-- That `write` of src/sides.rt keeps its contract.
use Rattle.coreinterrupt.proofs.SidesTableLaws.{write-past}
use Rattle.coreinterrupt.specs.Side.{side_write}
use native.Mathlib.Omega.{arith}
use Rattle.coreinterrupt.proofs.sides.write.Goals as goal

pub returns-in-Some-Soft : goal.returns-in-Some-Soft
unfolding side_write
returns-in-Some-Soft c = let i = rw c.in-Some-Soft.field-0-is at c.in-Some-Soft.ensures in rw (c.with_soft.ensures, c.set_bits.ensures, i)

pub returns-in-Some-SoftClear : goal.returns-in-Some-SoftClear
unfolding side_write
returns-in-Some-SoftClear c = let i = rw c.in-Some-SoftClear.field-0-is at c.in-Some-SoftClear.ensures in rw (c.with_soft-in-Some-SoftClear.ensures, c.clear_bits.ensures, i)

pub returns-in-Some-Enable : goal.returns-in-Some-Enable
unfolding side_write
returns-in-Some-Enable c = let i = rw c.in-Some-Enable.field-0-is at c.in-Some-Enable.ensures in rw (c.with_enable.ensures, c.set_bits-in-Some-Enable.ensures, i)

pub returns-in-Some-EnableClear : goal.returns-in-Some-EnableClear
unfolding side_write
returns-in-Some-EnableClear c = let i = rw c.in-Some-EnableClear.field-0-is at c.in-Some-EnableClear.ensures in rw (c.with_enable-in-Some-EnableClear.ensures, c.clear_bits-in-Some-EnableClear.ensures, i)

pub returns-in-Some-Raw : goal.returns-in-Some-Raw
returns-in-Some-Raw c = let i = rw c.in-Some-Raw.field-0-is at c.in-Some-Raw.ensures in write-past _ _ _ (omega (arith, i))

pub returns-in-Some-Status : goal.returns-in-Some-Status
returns-in-Some-Status c = let i = rw c.in-Some-Status.field-0-is at c.in-Some-Status.ensures in write-past _ _ _ (omega (arith, i))

pub returns-in-None : goal.returns-in-None
returns-in-None c = write-past _ _ _ (omega (arith, c.in-None.ensures))
