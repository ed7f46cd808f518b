-- That `seek` of src/lib.rt keeps its contract.
use native.Mathlib.Omega.{arith}
use lib.ListN.{get_or}
use Rattle.tables.proofs.SeekLaws.{before_more, turned, seek_is, is_turned, not-turned}
use Rattle.tables.proofs.seek.Goals as goal

pub returns-then-is_white-wanted : goal.returns-then-is_white-wanted
returns-then-is_white-wanted c =
    let l = c.loop-i in
    let a = c.args in
    seek_is a.wanted a.text.now a.at l.i (record { from = omega arith; within = omega arith; before = l.invariant; found = λ m. is_turned a.wanted c.is_white.result (get_or a.text.now l.i 0) c.is_white.ensures c.if-is_white-wanted.true })

pub loop-i-preserved : goal.loop-i-preserved
loop-i-preserved c =
    let l = c.loop-i in
    let a = c.args in
    before_more (turned a.wanted) a.text.now a.at l.i l.invariant (not-turned a.wanted c.is_white.result (get_or a.text.now l.i 0) c.is_white.ensures c.if-is_white-wanted.false)

pub returns : goal.returns
returns c =
    let a = c.args in
    seek_is a.wanted a.text.now a.at c.max.result (record { from = omega arith; within = omega arith; before = λ j l m. c.loop-i.invariant j l (omega arith); found = λ m. absurd (omega arith) })
