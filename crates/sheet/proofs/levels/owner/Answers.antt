-- That `owner` of src/levels.rt keeps its contract.
use Rattle.sheet.proofs.PageLaws.{none_more}
use Rattle.sheet.proofs.TurnLaws.{lowest_here, lowest-none}
use Rattle.sheet.specs.Levels.{owner, owns}
use mathlib.Core.Path.{◌∙◌, sym}
use native.Mathlib.Omega.{arith}
use Rattle.sheet.proofs.levels.owner.Goals as goal

pub loop-i-init : goal.loop-i-init
loop-i-init c = (omega arith, λ j h. absurd (omega arith))

pub returns-then-owns : goal.returns-then-owns
unfolding owner
returns-then-owns c =
    let a = c.args in
    lowest_here (owns a.t a.l a.n) c.loop-i.i c.loop-i-test.true c.loop-i.invariant.1 (sym c.owns.ensures ∙ c.if-owns.true)

pub loop-i-preserved : goal.loop-i-preserved
loop-i-preserved c =
    let a = c.args in
    (omega (arith, c.loop-i-test.true), none_more (owns a.t a.l a.n) c.loop-i.i c.loop-i.invariant.1 (sym c.owns.ensures ∙ c.if-owns.false))

pub returns : goal.returns
unfolding owner
returns c =
    let a = c.args in
    lowest-none (owns a.t a.l a.n) 32 (omega arith) (omega arith) (λ j h. c.loop-i.invariant.1 j (omega (arith, c.loop-i-test.false)))
