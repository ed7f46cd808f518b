-- That `put_until` of src/lib.rt keeps its contract.
use mathlib.Core.Path.{refl, ◌∙◌}
use Rattle.text.proofs.WriteLaws.{same_length as same-length-of}
use Rattle.register_names.proofs.TableLaws.{until-turn, until-bar, until_end}
use Rattle.register_names.proofs.put_until.Goals as goal

pub loop-b-init : goal.loop-b-init
loop-b-init c = (refl, refl)

pub returns-then-b-eq-BAR : goal.returns-then-b-eq-BAR
returns-then-b-eq-BAR c =
    let a = c.args in
    until-bar a.words.now c.loop-b.b-index _ _ c.loop-b-test.true c.if-b-eq-BAR.true c.loop-b.invariant.0

pub loop-b-preserved : goal.loop-b-preserved
loop-b-preserved c =
    let a = c.args in
    (until-turn a.words.now c.loop-b.b-index _ _ _ c.loop-b-test.true c.if-b-eq-BAR.false c.put-next.ensures c.loop-b.invariant.0, same-length-of _ _ _ c.put-next.ensures ∙ c.loop-b.invariant.1)

pub returns : goal.returns
returns c =
    let a = c.args in
    until_end a.words.now c.loop-b.b-index _ _ c.loop-b-test.false c.loop-b.invariant.0
