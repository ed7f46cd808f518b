-- That `level_bytes` of src/lib.rt keeps its contract.
use native.Mathlib.Omega.{arith}
use Rattle.words.proofs.CountingLaws.{at_end}
use Rattle.stack.specs.Bytes.{largest, level_bytes}
use Rattle.stack.proofs.SumLaws.{largest-none, largest-more}
use Rattle.stack.proofs.level_bytes.Goals as goal

pub loop-i-init : goal.loop-i-init
loop-i-init c = (omega arith, largest-none _ _)

pub loop-i-preserved : goal.loop-i-preserved
loop-i-preserved c = (omega arith, largest-more _ _ _ _ _ c.loop-i.invariant.1 c.taller-b.ensures)

pub returns : goal.returns
unfolding level_bytes
returns c =
    let a = c.args in
    at_end (largest a.t a.l) _ 32 c.loop-i.invariant.0 c.loop-i-test.false c.loop-i.invariant.1
