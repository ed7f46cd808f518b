-- That `all_levels` of src/levels.rt keeps its contract.
use Rattle.stack.proofs.SumLaws.{sum_more, sum-none}
use Rattle.stack.specs.Bytes.{level_bytes, stack_bytes}
use Rattle.words.proofs.CountingLaws.{at_end}
use Rattle.words.specs.Counting.{sum_below}
use borrow.Author.Rules.{rules}
use native.Mathlib.Omega.{arith}
use Rattle.sheet.proofs.levels.all_levels.Goals as goal

pub loop-l-init : goal.loop-l-init
loop-l-init c = (omega arith, sum-none _, omega arith)

pub loop-l-preserved : goal.loop-l-preserved
loop-l-preserved c = (omega arith, sum_more _ _ _ _ c.loop-l.invariant.1 c.level_bytes.ensures, search rules)

pub returns : goal.returns
unfolding stack_bytes
returns c =
    let t = c.args.t in
    at_end (λ n. sum_below n (level_bytes t)) _ 8 c.loop-l.invariant.0 c.loop-l-test.false c.loop-l.invariant.1
