-- That `sum_levels` of src/lib.rt keeps its contract.
use native.Mathlib.Omega.{arith}
use Rattle.words.specs.Counting.{sum_below}
use Rattle.words.proofs.CountingLaws.{at_end}
use Rattle.stack.specs.Bytes.{level_bytes, stack_bytes}
use Rattle.stack.proofs.SumLaws.{sum-none, sum_more, sum_small, bytes_small}
use Rattle.stack.proofs.sum_levels.Goals as goal

pub loop-l-init : goal.loop-l-init
loop-l-init c = (omega arith, sum-none _)

pub overflow_add-sum : goal.overflow_add-sum
overflow_add-sum c =
    let l = c.loop-l in
    omega (arith, sum_small c.args.t c.requires l.l, bytes_small c.args.t c.requires l.l, l.invariant.1, c.level_bytes-sum.ensures)

pub loop-l-preserved : goal.loop-l-preserved
loop-l-preserved c = (omega arith, sum_more _ _ _ _ c.loop-l.invariant.1 c.level_bytes-sum.ensures)

pub returns : goal.returns
unfolding stack_bytes
returns c =
    let t = c.args.t in
    at_end (λ n. sum_below n (level_bytes t)) _ 8 c.loop-l.invariant.0 c.loop-l-test.false c.loop-l.invariant.1
