-- That `hidden` of src/order.rt keeps its contract.
use Prim.Native.Nat.{◌+◌}
use Rattle.sheet.proofs.TurnLaws.{count-more}
use Rattle.sheet.specs.Order.{hidden, shown}
use Rattle.words.proofs.CountingLaws.{at_end, count_le, count-none_yet}
use Rattle.words.specs.Counting.{count_below}
use borrow.Author.Rules.{rules}
use mathlib.Core.Bool.{Bool, not}
use mathlib.Core.Path.{ap}
use native.Mathlib.Omega.{arith}
use Rattle.sheet.proofs.order.hidden.Goals as goal

pub loop-i-init : goal.loop-i-init
loop-i-init c = (omega arith, count-none_yet _)

pub overflow_add-n : goal.overflow_add-n
overflow_add-n c =
    let a = c.args in
    let e = count-more (λ i. not (shown a.t a.used i)) c.loop-i.i _ _ _ c.loop-i.invariant.1 (ap (λ (b : Bool). not b) c.shown-is.ensures) c.one_if-n.ensures in
    omega (arith, e, count_le (c.loop-i.i + 1) (λ i. not (shown a.t a.used i)), c.loop-i-test.true)

pub loop-i-preserved : goal.loop-i-preserved
loop-i-preserved c =
    let a = c.args in
    (search rules, count-more (λ i. not (shown a.t a.used i)) c.loop-i.i _ _ _ c.loop-i.invariant.1 (ap (λ (b : Bool). not b) c.shown-is.ensures) c.one_if-n.ensures)

pub returns : goal.returns
unfolding hidden
returns c =
    let a = c.args in
    at_end (λ n. count_below n (λ i. not (shown a.t a.used i))) _ _ c.loop-i.invariant.0 c.loop-i-test.false c.loop-i.invariant.1
