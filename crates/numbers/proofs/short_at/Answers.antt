-- That `short_at` of src/lib.rt keeps its contract.
use native.Mathlib.Omega.{arith}
use Rattle.numbers.proofs.ShortLaws.{one_byte, two_bytes}
use Rattle.numbers.proofs.short_at.Goals as goal

pub returns-then-a-lt128 : goal.returns-then-a-lt128
returns-then-a-lt128 c =
    let a = c.args in
    one_byte a.trace.now a.at c.wide-a.result c.wide-a.ensures.0 (omega (arith, c.if-trace-at.false)) c.if-a-lt128.true

pub returns-then-b-lt128 : goal.returns-then-b-lt128
returns-then-b-lt128 c =
    let a = c.args in
    let x = c.wide-a in
    let y = c.wide-b in
    two_bytes a.trace.now a.at x.result y.result x.ensures.0 y.ensures.0 (omega (arith, c.if-trace-at-lt2.false)) (omega (arith, c.if-a-lt128.false)) x.ensures.1
    c.if-b-lt128.true
