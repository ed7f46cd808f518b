-- That `ahead_of` of src/order.rt keeps its contract.
use Prim.Native.Nat.{◌+◌}
use Rattle.sheet.proofs.TurnLaws.{count-more}
use Rattle.sheet.specs.Order.{ahead, ahead_of, shown}
use Rattle.stack.specs.Bytes.{normal}
use Rattle.words.proofs.CountingLaws.{at_end, count_le, count-none_yet}
use Rattle.words.specs.Counting.{count_below}
use borrow.Author.Rules.{rules}
use mathlib.Core.Bool.{◌&&◌}
use native.Mathlib.Omega.{arith}
use Rattle.sheet.proofs.order.ahead_of.Goals as goal

pub loop-j-init : goal.loop-j-init
loop-j-init c = (omega arith, count-none_yet _)

pub overflow_add-n : goal.overflow_add-n
overflow_add-n c =
    let a = c.args in
    let e = count-more (λ j. shown a.t a.used j && (normal a.t j && ahead a.t j a.i)) c.loop-j.j _ _ _ c.loop-j.invariant.1 c.counts-before.ensures c.one_if-n.ensures in
    omega (arith, e, count_le (c.loop-j.j + 1) (λ j. shown a.t a.used j && (normal a.t j && ahead a.t j a.i)), c.loop-j-test.true)

pub loop-j-preserved : goal.loop-j-preserved
loop-j-preserved c =
    let a = c.args in
    (search rules, count-more (λ j. shown a.t a.used j && (normal a.t j && ahead a.t j a.i)) c.loop-j.j _ _ _ c.loop-j.invariant.1 c.counts-before.ensures c.one_if-n.ensures)

pub returns : goal.returns
unfolding ahead_of
returns c =
    let a = c.args in
    at_end (λ n. count_below n (λ j. shown a.t a.used j && (normal a.t j && ahead a.t j a.i))) _ _ c.loop-j.invariant.0 c.loop-j-test.false c.loop-j.invariant.1
