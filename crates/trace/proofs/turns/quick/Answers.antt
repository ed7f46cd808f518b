-- That `quick` of src/turns.rt keeps its contract.
use mathlib.Core.Path.{◌∙◌}
use native.Mathlib.Omega.{arith}
use Rattle.trace.proofs.TurnLaws.{turn_step, exact_as}
use Rattle.trace.proofs.turns.quick.Goals as goal

pub returns-then-trace-lt7 : goal.returns-then-trace-lt7
returns-then-trace-lt7 c = (λ n. absurd (n c.unsure.ensures), omega (arith, c.unsure.ensures), λ n. absurd (n c.unsure.ensures))

pub returns-then-trace-at : goal.returns-then-trace-at
returns-then-trace-at c = (λ n. absurd (n c.unsure-then-trace-at.ensures), omega (arith, c.unsure-then-trace-at.ensures), λ n. absurd (n c.unsure-then-trace-at.ensures))

pub returns-then-left-eq0 : goal.returns-then-left-eq0
returns-then-left-eq0 c = (λ n. absurd (n c.unsure-then-left-eq0.ensures), omega (arith, c.unsure-then-left-eq0.ensures), λ n. absurd (n c.unsure-then-left-eq0.ensures))

pub returns : goal.returns
returns c =
    let t = c.quick_step.ensures in
    let x = c.args in
    let s = turn_step x.told x.trace.now x.at x.left (omega (arith, c.if-trace-at.false, c.if-trace-lt7.false)) c.if-left-eq0.false in
    (λ n. t.0 n ∙ s, t.1, λ n. exact_as _ _ (omega (arith, t.1, n)) (t.2 n) (t.0 n ∙ s))
