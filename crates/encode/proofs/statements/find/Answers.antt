-- That `find` of src/statements.rt keeps its contract.
use native.Mathlib.Omega.{arith}
use borrow.Author.Tests.{eq-eqb, ne_eqb}
use Rattle.tables.proofs.SeekLaws.{before_more}
use Rattle.encode.proofs.PlaceLaws.{is, place_is}
use Rattle.encode.proofs.statements.find.Goals as goal

pub returns-then-text-i : goal.returns-then-text-i
returns-then-text-i c =
    let l = c.loop-i in
    let a = c.args in
    place_is a.b a.text.now a.at l.i (record { from = omega arith; within = omega arith; before = l.invariant; found = λ m. eq-eqb _ _ c.if-text-i.true })

pub loop-i-preserved : goal.loop-i-preserved
loop-i-preserved c =
    let l = c.loop-i in
    let a = c.args in
    before_more (is a.b) a.text.now a.at l.i l.invariant (ne_eqb _ _ c.if-text-i.false)

pub returns : goal.returns
returns c =
    let a = c.args in
    place_is a.b a.text.now a.at c.max.result (record { from = omega arith; within = omega arith; before = λ j l m. c.loop-i.invariant j l (omega arith); found = λ m. absurd (omega arith) })
