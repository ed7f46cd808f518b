-- That `short_in` of src/turns.rt keeps its contract.
use native.Mathlib.Omega.{arith}
use Rattle.numbers.proofs.ShortLaws.{one_byte, two_bytes}
use Rattle.trace.proofs.turns.short_in.Goals as goal

pub returns-then-a-lt128 : goal.returns-then-a-lt128
returns-then-a-lt128 c =
    let x = c.wide-a in
    (one_byte c.args.trace.now c.args.at x.result x.ensures.0 (omega (arith, c.requires)) c.if-a-lt128.true, omega arith)

pub returns-then-b-lt128 : goal.returns-then-b-lt128
returns-then-b-lt128 c =
    let y = c.wide-b in
    let x = c.wide-a in
    (two_bytes c.args.trace.now c.args.at x.result y.result x.ensures.0 y.ensures.0 (omega (arith, c.requires)) (omega (arith, c.if-a-lt128.false)) x.ensures.1 c.if-b-lt128.true, omega arith)
